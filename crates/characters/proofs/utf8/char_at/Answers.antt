use Rattle.std.proofs.Common.{sym, subst, arith}
use Rattle.characters.specs.Utf8.{EncodedIsRead, ReadIsEncoded}
use Rattle.characters.proofs.Characters.{encoded_is_read, read_is_encoded, none-at_end, some-before-end, characters_read}
use Rattle.characters.proofs.utf8.char_at.Goals as goal

pub returns-then-index-bytes : goal.returns-then-index-bytes
returns-then-index-bytes c =
    let s = c.args.bytes.now in
    let i = c.args.index in
    let e = none-at_end s i (omega arith) in
    record { answer = e; encoded_is_read = subst (EncodedIsRead s i) (sym e) (encoded_is_read s i); read_is_encoded = subst (ReadIsEncoded s i) (sym e) (read_is_encoded s i); examples = characters_read }

pub returns : goal.returns
returns c =
    let s = c.args.bytes.now in
    let i = c.args.index in
    let e = some-before-end s i c.decode.result c.from_u32.result (omega arith) c.decode.ensures c.from_u32.ensures.value in
    record { answer = e; encoded_is_read = subst (EncodedIsRead s i) (sym e) (encoded_is_read s i); read_is_encoded = subst (ReadIsEncoded s i) (sym e) (read_is_encoded s i); examples = characters_read }
