-- What the name of a span says of other tests of it.
-- Assumes nothing.
use Rattle.std.proofs.Common.{◌≡◌, ℕ, ◌-◌, Bool, true, false, cond, eqb, sym, refl, ap, ◌∙◌}
use Rattle.std.proofs.lemmas.Bool.{not-true, false≢true}
use Rattle.text.specs.declared.spans.SpanKind.{SpanKind}
use Rattle.text.specs.declared.spans.SpanKind.TheVariants.{Www, Protocol, Email, Mailto, Xmpp}
use Rattle.rules.specs.Web.{is_web}
use Rattle.machine.specs.declared.events.Name.{Name}
use Rattle.machine.specs.declared.events.Name.TheVariants.{Data, LineEnding, Link, Address}
use Rattle.machine.specs.Joins.{is_data}
use Rattle.machine.specs.Laws.{name_number}
use Rattle.calls.specs.EventLists.{is_line_ending, is_link, is_web_address, is_mail_address}

pub mail_leaf : (n : Name) → is_mail_address n ≡ true → is_link n ≡ false
mail_leaf Data e = refl
mail_leaf LineEnding e = refl
mail_leaf Link e = absurd (false≢true e)
mail_leaf (Address kind) e = refl

pub mail_no_data : (n : Name) → is_mail_address n ≡ true → is_data n ≡ false
mail_no_data Data e = absurd (false≢true e)
mail_no_data LineEnding e = refl
mail_no_data Link e = refl
mail_no_data (Address kind) e = refl

pub web_good : (n : Name) → is_web_address n ≡ true → (is_data n ≡ false) × (is_link n ≡ false)
web_good Data e = absurd (false≢true e)
web_good LineEnding e = (refl, refl)
web_good Link e = absurd (false≢true e)
web_good (Address kind) e = (refl, refl)

pub line_good : (n : Name) → is_line_ending n ≡ true → (is_data n ≡ false) × (is_link n ≡ false)
line_good Data e = absurd (false≢true e)
line_good LineEnding e = (refl, refl)
line_good Link e = absurd (false≢true e)
line_good (Address kind) e = (refl, refl)

pub data_is : (n : Name) → is_data n ≡ true → n ≡ Data
data_is Data e = refl
data_is LineEnding e = absurd (false≢true e)
data_is Link e = absurd (false≢true e)
data_is (Address kind) e = absurd (false≢true e)

pub link-is : (n : Name) → is_link n ≡ true → n ≡ Link
link-is Data e = absurd (false≢true e)
link-is LineEnding e = absurd (false≢true e)
link-is Link e = refl
link-is (Address kind) e = absurd (false≢true e)

-- a sort of name that neither Data, nor Link, nor mail has
pub record Other (p : Name → Bool) : Type 0 where
  pub of_data : (n : Name) → is_data n ≡ true → p n ≡ false
  pub of_mail : (n : Name) → is_mail_address n ≡ true → p n ≡ false
  pub of_link : p Link ≡ false

pub web_other : Other is_web_address
web_other = record { of_data = of_data; of_mail = of_mail; of_link = refl }
  where
    of_data : (n : Name) → is_data n ≡ true → is_web_address n ≡ false
    of_data Data e = refl
    of_data LineEnding e = refl
    of_data Link e = refl
    of_data (Address kind) e = absurd (false≢true e)

    of_mail : (n : Name) → is_mail_address n ≡ true → is_web_address n ≡ false
    of_mail Data e = refl
    of_mail LineEnding e = refl
    of_mail Link e = refl
    of_mail (Address kind) e = not-true (is_web kind) e

pub line_other : Other is_line_ending
line_other = record { of_data = of_data; of_mail = of_mail; of_link = refl }
  where
    of_data : (n : Name) → is_data n ≡ true → is_line_ending n ≡ false
    of_data Data e = refl
    of_data LineEnding e = absurd (false≢true e)
    of_data Link e = refl
    of_data (Address kind) e = refl

    of_mail : (n : Name) → is_mail_address n ≡ true → is_line_ending n ≡ false
    of_mail Data e = refl
    of_mail LineEnding e = absurd (false≢true e)
    of_mail Link e = refl
    of_mail (Address kind) e = refl

-- ---- names are told apart by their numbers

abbrev kind_of : ℕ → SpanKind
kind_of k = cond (eqb k 0) Www (cond (eqb k 1) Protocol (cond (eqb k 2) Email (cond (eqb k 3) Mailto Xmpp)))

abbrev name_of : ℕ → Name
name_of k = cond (eqb k 0) Data (cond (eqb k 1) LineEnding (cond (eqb k 2) Link (Address (kind_of (k - 3)))))

name_of-number : (n : Name) → name_of (name_number n) ≡ n
name_of-number Data = refl
name_of-number LineEnding = refl
name_of-number Link = refl
name_of-number (Address Www) = refl
name_of-number (Address Protocol) = refl
name_of-number (Address Email) = refl
name_of-number (Address Mailto) = refl
name_of-number (Address Xmpp) = refl

pub same_names : (a b : Name) → name_number a ≡ name_number b → a ≡ b
same_names a b e = sym (name_of-number a) ∙ ap name_of e ∙ name_of-number b
