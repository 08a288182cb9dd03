-- No event of the machine stands between CR and LF: wherever the point is, an event is put in front of a CR that was passed over.
-- And none is of a Link.
-- Assumes nothing.
use Rattle.std.proofs.Common.{◌≡◌, ℕ, zero, suc, ◌+◌, ◌-◌, Bool, true, false, cond, not, ◌&&◌, ◌||◌, eqb, ltb, List, [], ◌∷◌, ◌++◌, get_or, Some, None, codes, Option, refl, ap, ◌∙◌, arith}
use Rattle.std.specs.List.{AllByRecursion}
use Rattle.std.proofs.ByRecursion.{All-push, All-take}
use Rattle.std.proofs.lemmas.Bool.{cond_both, and_parts, and_right}
use Rattle.text.specs.Ascii.{letter}
use Rattle.text.specs.Bytes.{among}
use Rattle.text.specs.declared.spans.SpanKind.TheVariants.{Www, Protocol}
use Rattle.machine.specs.declared.attempts.Attempt.{Attempt}
use Rattle.machine.specs.declared.attempts.Progress.{Progress}
use Rattle.machine.specs.declared.cursors.Until.{Until}
use Rattle.machine.specs.declared.events.Event.{Event}
use Rattle.machine.specs.declared.events.EventKind.{EventKind}
use Rattle.machine.specs.declared.events.EventKind.TheVariants.{Enter, Exit}
use Rattle.machine.specs.declared.events.Name.{Name}
use Rattle.machine.specs.declared.events.Name.TheVariants as name
use Rattle.machine.specs.declared.states.State.{State}
use Rattle.machine.specs.declared.states.State.TheVariants.{Next, Retry, Ok, Nok}
use Rattle.machine.specs.declared.states.StateName.{StateName}
use Rattle.machine.specs.declared.states.StateName.TheVariants.{Before, Line, Data, Inside, ProtocolStart, ProtocolPrefixInside, ProtocolSlashesInside, ProtocolAfter, WwwStart, WwwPrefixInside, WwwPrefixAfter, WwwAfter, DomainInside, DomainAtPunctuation, DomainAfter, PathInside, PathAtPunctuation, PathAfter, Trail, TrailBracketAfter, TrailCharRefStart, TrailCharRefInside}
use Rattle.machine.specs.Cursors.{crlf_at, before_cr, event}
use Rattle.machine.specs.Invariant.{Edge}
use Rattle.machine.specs.Moves.{Machine, events_back, puts_back, resumed, with_attempts, settled_as, settled}
use Rattle.machine.specs.States.{on, at_end, is, begins_protocol, begins_www, ends_data, may_precede_www, continuation, hyphen_or_continuation, may_end_path, trail_mark, after_bracket, is_white_space, is_other, unclosed, protocol_read, domain_fails, kind_here, call}
use Rattle.machine.specs.Runs.{prepared, due, shown, Outcome, stopped, run}
use Rattle.machine.proofs.Walk.{crlf}
use Rattle.machine.proofs.Turns.{choose_both}
use Rattle.calls.specs.EventLists.{is_link}

-- in front of a CR that was passed over is an edge, and so is every place where none was
edge_before_cr : (s : List ℕ) (i : ℕ) → Edge s (before_cr s i)
edge_before_cr s i =
    cond_both (ltb 0 i && crlf_at s (i - 1)) (i - 1) i (Edge s)
    (λ h.
    let cr = (crlf s (i - 1) (and_parts (ltb 0 i) (crlf_at s (i - 1)) h).1).0 in
    cr_edge (i - 1) cr)
    (λ h. h)
  where
    -- a CR is no LF, so none stands before it that is passed over
    cr_edge : (j : ℕ) → get_or s j 0 ≡ 13 → Edge s j
    cr_edge zero e = refl
    cr_edge (suc j) e =
        let at : suc j - 1 + 1 ≡ suc j = omega arith in
        and_right (ltb 0 (suc j)) (crlf_at s (suc j - 1)) (and_right (eqb (get_or s (suc j - 1) 0) 13) (eqb (get_or s (suc j - 1 + 1) 0) 10) (ap (λ k. eqb (get_or s k 0) 10) at ∙ ap (λ b. eqb b 10) e))

pub record PutAside (s : List ℕ) (e : Event) : Type 0 where
  pub edge : Edge s e.point.index
  pub no-link : is_link e.name ≡ false

abbrev pub Aside : List ℕ → List Event → Type 0
Aside s es = AllByRecursion (PutAside s) es

record KeepsAside (m : Machine) : Type 0 where
  all : Aside m.note m.events

one_more : (m : Machine) (kind : EventKind) (n : Name) → is_link n ≡ false → KeepsAside m → Aside m.note (m.events ++ event m.note kind n m.cursor.point ∷ [])
one_more m kind n l h =
    All-push (PutAside m.note) m.events (event m.note kind n m.cursor.point) h.all (record { edge = edge_before_cr m.note m.cursor.point.index; no-link = l })

added : {m : Machine} → Aside m.note m.events → KeepsAside m
added h = record { all = h }

-- both ways of a choice keep it
either : (b : Bool) (x y : Machine) → KeepsAside x → KeepsAside y → KeepsAside (cond b x y)
either b x y h k = cond_both b x y KeepsAside (λ _. h) (λ _. k)

module _ (member : ℕ → Bool) (m : Machine) (h : KeepsAside m) where
  abbrev c : Option ℕ
  c = m.cursor.current

  call_aside : (n : StateName) → KeepsAside (call member n m)
  call_aside Before = either (at_end c) _ _ (added h.all) (either (on begins_protocol c) _ _ (added h.all) (either (on begins_www c) _ _ (added h.all) (either (on (is 10) c) _ _ (added (one_more m Enter name.LineEnding refl h)) (added h.all))))
  call_aside Line = added (one_more m Exit name.LineEnding refl h)
  call_aside Data = added (one_more m Enter name.Data refl h)
  call_aside Inside = either (at_end c || on ends_data c) _ _ (added (one_more m Exit name.Data refl h)) (added h.all)
  call_aside ProtocolStart = either (on begins_protocol c && not (on letter m.cursor.previous)) _ _ (added (one_more m Enter (name.Address Protocol) refl h)) (added h.all)
  call_aside ProtocolPrefixInside = either (on letter c && ltb (m.cursor.point.index - m.registers.start) 5) _ _ (added h.all) (either (on (is 58) c && protocol_read m) _ _ (added h.all) (added h.all))
  call_aside ProtocolSlashesInside = either (on (is 47) c) _ _ (either (eqb m.registers.size 0) _ _ (added h.all) (added h.all)) (added h.all)
  call_aside ProtocolAfter = added (one_more m Exit (name.Address Protocol) refl h)
  call_aside WwwStart = either (on begins_www c && may_precede_www m.cursor.previous) _ _ (added (one_more m Enter (name.Address Www) refl h)) (added h.all)
  call_aside WwwPrefixInside = either (on (is 46) c && eqb m.registers.size 3) _ _ (added h.all) (either (on begins_www c && ltb m.registers.size 3) _ _ (added h.all) (added h.all))
  call_aside WwwPrefixAfter = either (at_end c) _ _ (added h.all) (added h.all)
  call_aside WwwAfter = added (one_more m Exit (name.Address Www) refl h)
  call_aside DomainInside = either (on (among (codes "._")) c) _ _ (added h.all) (either (on hyphen_or_continuation c) _ _ (added h.all) (either (is_other (kind_here member m)) _ _ (added h.all) (added h.all)))
  call_aside DomainAtPunctuation = either (on (is 95) c) _ _ (added h.all) (added h.all)
  call_aside DomainAfter = either (domain_fails m) _ _ (added h.all) (added h.all)
  call_aside PathInside = either (on continuation c) _ _ (added h.all) (either (on (is 40) c) _ _ (added h.all) (either (on (is 41) c && unclosed m) _ _ (added h.all) (either (on may_end_path c) _ _ (added h.all) (either (at_end c || is_white_space (kind_here member m)) _ _ (added h.all) (added h.all)))))
  call_aside PathAtPunctuation = either (on (is 41) c) _ _ (added h.all) (added h.all)
  call_aside PathAfter = added h.all
  call_aside Trail = either (on (is 41) c && unclosed m) _ _ (added h.all) (either (on (is 93) c) _ _ (added h.all) (either (on trail_mark c) _ _ (added h.all) (either (on (is 38) c) _ _ (added h.all) (either (on (is 60) c || is_white_space (kind_here member m)) _ _ (added h.all) (added h.all)))))
  call_aside TrailBracketAfter = either (at_end c || on after_bracket c) _ _ (added h.all) (added h.all)
  call_aside TrailCharRefStart = either (on letter c) _ _ (added h.all) (added h.all)
  call_aside TrailCharRefInside = either (on letter c) _ _ (added h.all) (either (on (is 59) c) _ _ (added h.all) (added h.all))

-- what is put back is a front of the events
back_aside : (s : List ℕ) (o : Option Progress) (es : List Event) → Aside s es → Aside s (events_back o es)
back_aside s None es h = h
back_aside s (Some p) es h = All-take (PutAside s) p.events es h

resumed_aside : (ok : Bool) (a : Attempt) (us : List Attempt) (m : Machine) → KeepsAside m → KeepsAside (resumed ok a (with_attempts us m))
resumed_aside ok a us m h = added (back_aside m.note (cond (puts_back a.kind ok) a.progress None) m.events h.all)

settled_aside : (a : State) (us : List Attempt) (m : Machine) → KeepsAside m → KeepsAside (settled_as a us m)
settled_aside (Next n) us m h = h
settled_aside (Retry n) us m h = h
settled_aside Ok [] m h = h
settled_aside Ok (a ∷ us) m h = settled_aside a.ok us (resumed true a (with_attempts us m)) (resumed_aside true a us m h)
settled_aside Nok [] m h = h
settled_aside Nok (a ∷ us) m h = settled_aside a.nok us (resumed false a (with_attempts us m)) (resumed_aside false a us m h)

runs_aside : (member : ℕ → Bool) (until : Until) (allowance : ℕ) (m : Machine) → KeepsAside m → KeepsAside (run member until allowance m).after
runs_aside member until zero m h = added (settled_aside m.state m.attempts m h).all
runs_aside member until (suc allowance) m h =
    let k = settled_aside m.state m.attempts m h in
    choose_both (due until (prepared until m)) (λ (o : Outcome). KeepsAside o.after) (stopped (prepared until m) true) _
    (λ _. added k.all)
    (λ n _. runs_aside member until allowance (call member n (shown (prepared until m))) (call_aside member (shown (prepared until m)) (added k.all) n))

pub run_aside : (member : ℕ → Bool) (until : Until) (allowance : ℕ) (m : Machine) → Aside m.note m.events → let o = run member until allowance m in Aside o.after.note o.after.events
run_aside member until allowance m h = (runs_aside member until allowance m (added h)).all

-- a state call, and settling
pub called_aside : (member : ℕ → Bool) (n : StateName) (m : Machine) → Aside m.note m.events → Aside (call member n m).note (call member n m).events
called_aside member n m h = (call_aside member m (added h) n).all

pub settling_aside : (m : Machine) → Aside m.note m.events → Aside (settled m).note (settled m).events
settling_aside m h = (settled_aside m.state m.attempts m (added h)).all
