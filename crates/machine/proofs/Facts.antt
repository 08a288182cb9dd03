-- What the invariant gives: room in the tables, bounds, and the law of the events.
-- Assumes nothing.
use Rattle.std.proofs.Common.{◌≡◌, ℕ, ◌*◌, ◌<◌, ◌≤◌, true, false, not, ltb, List, [], ◌∷◌, ◌++◌, length, Some, None, Option, sym, refl, ap, ◌∙◌, subst, inl, inr, ⊎_elim, arith}
use Rattle.std.proofs.lemmas.Bool.{cases_lt, and_from, cond-true, eq-eqb, le-leb, lt-ltb, le-ltb}
use Rattle.std.proofs.lemmas.List.{length_push}
use Rattle.text.specs.Places.{place_at, point_at}
use Rattle.text.proofs.Walks.{place-line, place-column}
use Rattle.machine.specs.declared.attempts.Attempt.{Attempt}
use Rattle.machine.specs.declared.cursors.Cursor.{Cursor}
use Rattle.machine.specs.declared.cursors.Registers.{Registers}
use Rattle.machine.specs.declared.events.Event.{Event}
use Rattle.machine.specs.declared.events.EventKind.TheVariants.{Enter, Exit}
use Rattle.machine.specs.declared.events.Name.{Name}
use Rattle.machine.specs.declared.events.Name.TheVariants as name
use Rattle.machine.specs.declared.states.StateName.{StateName}
use Rattle.machine.specs.declared.states.StateName.TheVariants.{Before, Line, Data, Inside, ProtocolStart, ProtocolPrefixInside, ProtocolSlashesInside, ProtocolAfter, WwwStart, WwwPrefixInside, WwwPrefixAfter, WwwAfter, DomainInside, DomainAtPunctuation, DomainAfter, PathInside, PathAtPunctuation, PathAfter, Trail, TrailBracketAfter, TrailCharRefStart, TrailCharRefInside}
use Rattle.machine.specs.declared.states.State.{State}
use Rattle.machine.specs.declared.states.State.TheVariants.{Next, Retry, Ok}
use Rattle.machine.specs.Moves.{Machine, made_of}
use Rattle.machine.specs.States.{at_end}
use Rattle.machine.specs.Runs.{cleared}
use Rattle.machine.specs.Laws.{event_at, Segment, events_of, Tiles, Tiled, same_name, open_after, placed, in_text_order, PointBounded, RegistersBounded, CapturedBounded, AttemptsBounded, Lawful}
use Rattle.machine.specs.Invariant.{index_shown, Shows, shows, space, Past, beyond, amid_tab, ready, Closed, none, more, Web, www, protocol, name_of, leaves, link_attempt, counting, noting, InTrail, in_trail, in_bracket, in_start, in_ref, Stage, p_prefix, p_slashes, w_prefix, w_after, domain, domain_at, domain_after, path, path_at, path_after, trail, left, Fit, before, line, text, inside, p_start, w_start, linked, Sound, next, retry, over, depth, opens, Ready}
use Rattle.machine.proofs.Walk.{shows-at, shows-end, index_low, index_high, index-inside, place_low}
use Rattle.machine.proofs.Keeps.{shown-inside}

tiles_more : (a i j : ℕ) (n : Name) (xs : List Segment) → Tiles a i xs → i < j → Tiles a j (xs ++ record { name = n; from = i; to = j } ∷ [])
tiles_more a i j n [] h lt = (sym h, omega arith, refl)
tiles_more a i j n (x ∷ xs) h lt = (h.0, h.1, tiles_more x.to i j n xs h.2 lt)

events-more : (s : List ℕ) (i j : ℕ) (n : Name) (xs : List Segment) → events_of s (xs ++ record { name = n; from = i; to = j } ∷ []) ≡ (events_of s xs ++ event_at s Enter n i ∷ []) ++ event_at s Exit n j ∷ []
events-more s i j n [] = refl
events-more s i j n (x ∷ xs) = ap (λ t. event_at s Enter x.name x.from ∷ event_at s Exit x.name x.to ∷ t) (events-more s i j n xs)

trails_shape : {n : StateName} → InTrail n → (depth n ≡ 3) × (opens n ≡ 1)
trails_shape in_trail = (refl, refl)
trails_shape in_bracket = (refl, refl)
trails_shape in_start = (refl, refl)
trails_shape in_ref = (refl, refl)

leaves_shape : (l : Web) → (depth (leaves l) ≡ 1) × (opens (leaves l) ≡ 1)
leaves_shape www = (refl, refl)
leaves_shape protocol = (refl, refl)

depth_three : (n : StateName) → depth n ≤ 3
depth_three Before = omega arith
depth_three Line = omega arith
depth_three Data = omega arith
depth_three Inside = omega arith
depth_three ProtocolStart = omega arith
depth_three ProtocolPrefixInside = omega arith
depth_three ProtocolSlashesInside = omega arith
depth_three ProtocolAfter = omega arith
depth_three WwwStart = omega arith
depth_three WwwPrefixInside = omega arith
depth_three WwwPrefixAfter = omega arith
depth_three WwwAfter = omega arith
depth_three DomainInside = omega arith
depth_three DomainAtPunctuation = omega arith
depth_three DomainAfter = omega arith
depth_three PathInside = omega arith
depth_three PathAtPunctuation = omega arith
depth_three PathAfter = omega arith
depth_three Trail = omega arith
depth_three TrailBracketAfter = omega arith
depth_three TrailCharRefStart = omega arith
depth_three TrailCharRefInside = omega arith

-- ---- the law of the events as tests

same_name_self : (n : Name) → same_name n n ≡ true
same_name_self n = eq-eqb _ _ refl

tiles_low : (a b : ℕ) (xs : List Segment) → Tiles a b xs → a ≤ b
tiles_low a b [] h = omega arith
tiles_low a b (x ∷ xs) h = omega (arith, h.1, tiles_low x.to b xs h.2)

at-placed : (s : List ℕ) (i : ℕ) → i ≤ length s → placed s (point_at s i) ≡ true
at-placed s i le = and_from _ _ (eq-eqb (place_at s i).line _ refl) (and_from _ _ (eq-eqb (place_at s i).column _ refl) (le-leb i (length s) le))

segments-ordered : (s : List ℕ) (a i : ℕ) (xs : List Segment) (t : List Event) → Tiles a i xs → i ≤ length s → in_text_order s i t ≡ true → in_text_order s a (events_of s xs ++ t) ≡ true
segments-ordered s a i [] t h le q = subst (λ j. in_text_order s j t ≡ true) (sym h) q
segments-ordered s a i (x ∷ xs) t h le q =
    let low = tiles_low x.to i xs h.2 in
    and_from _ _ (and_from _ _ (at-placed s x.from (omega (arith, h.0, h.1))) (at-placed s x.to (omega arith)))
    (and_from _ _ (and_from _ _ (le-leb a x.from (omega (arith, h.0))) (lt-ltb x.from x.to (omega (arith, h.0, h.1)))) (segments-ordered s x.to i xs t h.2 le q))

segments-nested : (s : List ℕ) (xs : List Segment) (t : List Event) → open_after (Some []) (events_of s xs ++ t) ≡ open_after (Some []) t
segments-nested s [] t = refl
segments-nested s (x ∷ xs) t =
    ap (λ (o : Option (List Name)). open_after o (events_of s xs ++ t)) (cond-true (same_name x.name x.name) (Some []) None (same_name_self x.name))
    ∙ segments-nested s xs t

append_nil : {A : Type 0} (xs : List A) → xs ++ [] ≡ xs
append_nil [] = refl
append_nil (x ∷ xs) = ap (λ t. x ∷ t) (append_nil xs)

tiled-ordered : {s : List ℕ} {es : List Event} {ns : List Name} → Tiled s es ns → in_text_order s 0 es ≡ true
tiled-ordered {s} h =
    ⊎_elim
    (λ q. subst (λ (t : List Event). in_text_order s 0 t ≡ true) (append_nil (events_of s h.segments) ∙ sym q.0) (segments-ordered s 0 h.to h.segments [] h.tiles h.inside refl))
    (λ q. subst (λ (t : List Event). in_text_order s 0 t ≡ true) (sym q.1) (segments-ordered s 0 h.to h.segments (event_at s Enter q.0 h.to ∷ []) h.tiles h.inside (and_from _ _ (at-placed s h.to h.inside) (le-leb h.to h.to (omega arith)))))
    h.are

tiled-nested : {s : List ℕ} {es : List Event} {ns : List Name} → Tiled s es ns → open_after (Some []) es ≡ Some ns
tiled-nested {s} h =
    ⊎_elim
    (λ q. ap (open_after (Some [])) (q.0 ∙ sym (append_nil (events_of s h.segments))) ∙ segments-nested s h.segments [] ∙ ap Some (sym q.1))
    (λ q. ap (open_after (Some [])) q.1 ∙ segments-nested s h.segments (event_at s Enter q.0 h.to ∷ []) ∙ ap Some (sym q.2))
    h.are

-- all closed, or one open
data Told (s : List ℕ) : List Event → List Name → Type 0 where
  shut : {i : ℕ} {es : List Event} → Closed s i es → i ≤ length s → Told s es []
  one : {i : ℕ} {es : List Event} {a : Event} (n : Name) → Closed s i es → a ≡ event_at s Enter n i → i < length s → Told s (es ++ a ∷ []) (n ∷ [])

module _ {s : List ℕ} where
  place_inside : {i : ℕ} {c : Cursor} → Shows s i c → i ≤ length s
  place_inside (shows le ed) = le

  shows_low : {i : ℕ} {c : Cursor} → Shows s i c → i ≤ c.point.index
  shows_low (shows {i} le ed) = index_low s i

  place_bounded : {i : ℕ} {c : Cursor} → Shows s i c → PointBounded s c.point
  place_bounded (shows {i} le ed) =
      let low = place_low s i in
      record { index = index_high s i le; low_line = low.0; line = omega (arith, place-line s i); low_column = low.1; column = omega (arith, place-column s i); vs = omega arith }

  past_bounded : {i : ℕ} {c : Cursor} → Past s i c → PointBounded s c.point
  past_bounded (beyond lt p) = place_bounded p
  past_bounded (amid_tab le (space {i = j} {c} k lt tb e stop)) =
      let low = place_low s j in
      record { index = omega arith; low_line = low.0; line = omega (arith, place-line s j); low_column = omega (arith, low.1); column = omega (arith, place-column s j); vs = omega arith }

  past-inside : {i : ℕ} {c : Cursor} → Past s i c → i < length s
  past-inside (beyond lt p) = omega (arith, place_inside p)
  past-inside (amid_tab le (space {i = j} k lt tb e stop)) = omega arith

  -- ---- events

  closed-few : {i : ℕ} {es : List Event} → Closed s i es → length es ≤ 2 * i
  closed-few none = omega arith
  closed-few (more {es} {a} {b} n cl ea eb lt) = omega (arith, closed-few cl, length_push es a, length_push (es ++ a ∷ []) b)

  spans_of : {i : ℕ} {es : List Event} → Closed s i es → (xs : List Segment) × Tiles 0 i xs × (es ≡ events_of s xs)
  spans_of none = ([], refl, refl)
  spans_of (more {i} {j} {es} {a} {b} n cl ea eb lt) =
      let r = spans_of cl in (
        r.0 ++ record { name = n; from = i; to = j } ∷ [],
        tiles_more 0 i j n r.0 r.1 lt,
        ap (λ (t : List Event). (t ++ a ∷ []) ++ b ∷ []) r.2 ∙ ap (λ (t : Event). (events_of s r.0 ++ t ∷ []) ++ b ∷ []) ea ∙ ap (λ (t : Event). (events_of s r.0 ++ event_at s Enter n i ∷ []) ++ t ∷ []) eb ∙ sym (events-more s i j n r.0),
      )

  told-nested : {es : List Event} {ns : List Name} → Told s es ns → Tiled s es ns
  told-nested (shut {i} cl le) = let r = spans_of cl in record { to = i; segments = r.0; tiles = r.1; inside = le; are = inl (r.2, refl) }
  told-nested (one {i} {es} {a} n cl ea lt) =
      let r = spans_of cl in
      record { to = i; segments = r.0; tiles = r.1; inside = omega arith; are = inr (n, ap (λ (t : List Event). t ++ a ∷ []) r.2 ∙ ap (λ (t : Event). events_of s r.0 ++ t ∷ []) ea, refl, lt) }

  told-few : {es : List Event} {ns : List Name} → Told s es ns → length es ≤ 2 * length s
  told-few (shut cl le) = omega (arith, closed-few cl)
  told-few (one {es} {a} n cl ea lt) = omega (arith, closed-few cl, length_push es a)

  told-one : {es : List Event} {ns : List Name} → Told s es ns → length ns ≤ 1
  told-one (shut cl le) = omega arith
  told-one (one n cl ea lt) = omega arith

  open_room : {i : ℕ} {es : List Event} (a : Event) → Closed s i es → i < length s → length (es ++ a ∷ []) < 2 * length s
  open_room {es = es} a cl lt = omega (arith, closed-few cl, length_push es a)

  -- ---- by state

  fit_told : {n : StateName} {c : Cursor} {r : Registers} {us : List Attempt} {es : List Event} {ns : List Name} → Fit s n c r us es ns → Told s es ns
  fit_told (before p cl) = shut cl (place_inside p)
  fit_told (line p cl ea lt) = one name.LineEnding cl ea (omega (arith, place_inside p))
  fit_told (text t) = shut t.closed (omega (arith, t.inside))
  fit_told (inside p cl ea) = one name.Data cl ea (past-inside p)
  fit_told (p_start t) = shut t.closed (omega (arith, t.inside))
  fit_told (w_start t) = shut t.closed (omega (arith, t.inside))
  fit_told (linked {l} t ea p st) = one (name_of l) t.closed ea t.inside

  fit_point : {n : StateName} {c : Cursor} {r : Registers} {us : List Attempt} {es : List Event} {ns : List Name} → Fit s n c r us es ns → PointBounded s c.point
  fit_point (before p cl) = place_bounded p
  fit_point (line p cl ea lt) = place_bounded p
  fit_point (text t) = place_bounded t.at
  fit_point (inside p cl ea) = past_bounded p
  fit_point (p_start t) = place_bounded t.at
  fit_point (w_start t) = place_bounded t.at
  fit_point (linked t ea p st) = place_bounded p

  before-room : {i : ℕ} {c : Cursor} {es : List Event} → Shows s i c → Closed s i es → at_end c.current ≡ false → length es < 2 * length s
  before-room (shows {i} le ed) cl h = omega (arith, closed-few cl, shown-inside s i h)

  fit_room : {n : StateName} {c : Cursor} {r : Registers} {us : List Attempt} {es : List Event} {ns : List Name} → Fit s n c r us es ns → (n ≡ Before → at_end c.current ≡ false) → length es < 2 * length s
  fit_room (before p cl) h = before-room p cl (h refl)
  fit_room (line {a} p cl ea lt) h = open_room a cl (omega (arith, place_inside p))
  fit_room (text t) h = omega (arith, closed-few t.closed, t.inside)
  fit_room (inside {a} p cl ea) h = open_room a cl (past-inside p)
  fit_room (p_start t) h = omega (arith, closed-few t.closed, t.inside)
  fit_room (w_start t) h = omega (arith, closed-few t.closed, t.inside)
  fit_room (linked {a} t ea p st) h = open_room a t.closed t.inside

  -- the registers' bounds, and the start of a protocol's name
  small : (r : Registers) → r.size ≤ 3 → r.size_b ≡ 0 → r.start ≡ 0 → RegistersBounded s r
  small r a b c = record { size = omega arith; size_b = omega arith; start = omega arith }

  counted : (j x y : ℕ) → j ≤ length s → x ≤ j → y ≤ j → RegistersBounded s (counting x y)
  counted j x y le a b = record { size = omega arith; size_b = omega arith; start = omega arith }

  stage_within : {i : ℕ} {d : Cursor} {evs : List Event} {j : ℕ} {l : Web} {n : StateName} {r : Registers} {us : List Attempt} → j ≤ length s → Stage s i d evs l j n r us → RegistersBounded s r
  stage_within le (p_prefix {k} lo st) = record { size = omega arith; size_b = omega arith; start = omega arith }
  stage_within le (p_slashes {k} lo h) = small (counting k 0) (omega arith) refl refl
  stage_within le (w_prefix {k} h) = small (counting k 0) h refl refl
  stage_within le w_after = small cleared (omega arith) refl refl
  stage_within le (domain {b} {x} {y} lo seen) = small (noting b x y) (omega arith) refl refl
  stage_within le (domain_at {b} {x} {y} f lo seen) = small (noting b x y) (omega arith) refl refl
  stage_within le (domain_after {b} {x} {y} lo seen) = small (noting b x y) (omega arith) refl refl
  stage_within le (path {j} {x} {y} lo lx ly) = counted j x y le lx ly
  stage_within le (path_at {j} {x} {y} f lo lx ly) = counted j x y le lx ly
  stage_within le (path_after {j} {x} {y} lo lx ly) = counted j x y le lx ly
  stage_within le (trail h z pe f g) = stage_within (place_inside pe) f
  stage_within le (left lo) = small cleared (omega arith) refl refl

  stage_started : {i : ℕ} {d : Cursor} {evs : List Event} {j : ℕ} {l : Web} {n : StateName} {r : Registers} {us : List Attempt} → Stage s i d evs l j n r us → r.start ≤ j
  stage_started (p_prefix lo st) = st
  stage_started (p_slashes lo h) = omega arith
  stage_started (w_prefix h) = omega arith
  stage_started w_after = omega arith
  stage_started (domain lo seen) = omega arith
  stage_started (domain_at f lo seen) = omega arith
  stage_started (domain_after lo seen) = omega arith
  stage_started (path lo lx ly) = omega arith
  stage_started (path_at f lo lx ly) = omega arith
  stage_started (path_after lo lx ly) = omega arith
  stage_started (trail h z pe f g) = omega arith
  stage_started (left lo) = omega arith

  stage_shape : {i : ℕ} {d : Cursor} {evs : List Event} {j : ℕ} {l : Web} {n : StateName} {r : Registers} {us : List Attempt} (b : Attempt) → Stage s i d evs l j n r us → (length (us ++ b ∷ []) ≡ depth n) × (1 ≡ opens n)
  stage_shape b (p_prefix lo st) = (refl, refl)
  stage_shape b (p_slashes lo h) = (refl, refl)
  stage_shape b (w_prefix h) = (refl, refl)
  stage_shape b w_after = (refl, refl)
  stage_shape b (domain lo seen) = (refl, refl)
  stage_shape b (domain_at f lo seen) = (refl, refl)
  stage_shape b (domain_after lo seen) = (refl, refl)
  stage_shape b (path lo lx ly) = (refl, refl)
  stage_shape b (path_at f lo lx ly) = (refl, refl)
  stage_shape b (path_after lo lx ly) = (refl, refl)
  stage_shape b (trail h z pe f g) = (sym (trails_shape h).0, sym (trails_shape h).1)
  stage_shape b (left {l} lo) = (sym (leaves_shape l).0, sym (leaves_shape l).1)

  fit_within : {n : StateName} {c : Cursor} {r : Registers} {us : List Attempt} {es : List Event} {ns : List Name} → Fit s n c r us es ns → RegistersBounded s r × (r.start ≤ c.point.index)
  fit_within (before p cl) = (small cleared (omega arith) refl refl, omega arith)
  fit_within (line p cl ea lt) = (small cleared (omega arith) refl refl, omega arith)
  fit_within (text t) = (small cleared (omega arith) refl refl, omega arith)
  fit_within (inside p cl ea) = (small cleared (omega arith) refl refl, omega arith)
  fit_within (p_start t) = (small cleared (omega arith) refl refl, omega arith)
  fit_within (w_start t) = (small cleared (omega arith) refl refl, omega arith)
  fit_within (linked t ea p st) = (stage_within (place_inside p) st, omega (arith, stage_started st, shows_low p))

  fit_shape : {n : StateName} {c : Cursor} {r : Registers} {us : List Attempt} {es : List Event} {ns : List Name} → Fit s n c r us es ns → (length us ≡ depth n) × (length ns ≡ opens n)
  fit_shape (before p cl) = (refl, refl)
  fit_shape (line p cl ea lt) = (refl, refl)
  fit_shape (text t) = (refl, refl)
  fit_shape (inside p cl ea) = (refl, refl)
  fit_shape (p_start t) = (refl, refl)
  fit_shape (w_start t) = (refl, refl)
  fit_shape (linked {d} {es} t ea p st) = stage_shape (link_attempt d es) st

  -- what the attempts would put back
  stage_holds : {i : ℕ} {d : Cursor} {evs : List Event} {j : ℕ} {l : Web} {n : StateName} {r : Registers} {us : List Attempt} (b : Attempt) → PointBounded s d.point → CapturedBounded s (length evs) b.progress → Stage s i d evs l j n r us → AttemptsBounded s (length evs) (us ++ b ∷ [])
  stage_holds b bd h (p_prefix lo st) = (tt, (tt, (h, tt)))
  stage_holds b bd h (p_slashes lo k) = (tt, (tt, (h, tt)))
  stage_holds b bd h (w_prefix k) = ((bd, omega arith, omega arith), (tt, (h, tt)))
  stage_holds b bd h w_after = ((bd, omega arith, omega arith), (tt, (h, tt)))
  stage_holds b bd h (domain lo seen) = (tt, (h, tt))
  stage_holds b bd h (domain_at f lo seen) = (tt, (h, tt))
  stage_holds b bd h (domain_after lo seen) = (tt, (h, tt))
  stage_holds b bd h (path lo lx ly) = (tt, (h, tt))
  stage_holds b bd h (path_at f lo lx ly) = (tt, (h, tt))
  stage_holds b bd h (path_after lo lx ly) = (tt, (h, tt))
  stage_holds b bd h (trail k z pe f g) = ((place_bounded pe, omega arith, omega arith), (tt, (h, tt)))
  stage_holds b bd h (left lo) = (h, tt)

  fit_holds : {n : StateName} {c : Cursor} {r : Registers} {us : List Attempt} {es : List Event} {ns : List Name} → Fit s n c r us es ns → AttemptsBounded s (length es) us
  fit_holds (before p cl) = tt
  fit_holds (line p cl ea lt) = tt
  fit_holds (text t) = tt
  fit_holds (inside p cl ea) = tt
  fit_holds (p_start t) = ((place_bounded t.at, omega arith, omega arith), tt)
  fit_holds (w_start t) = ((place_bounded t.at, omega arith, omega arith), tt)
  fit_holds (linked {d} {es} {a} t ea p st) = stage_holds (link_attempt d es) (place_bounded t.at) (place_bounded t.at, omega (arith, length_push es a), omega arith) st

  -- the end is shown exactly at the end
  shows-shown : {i : ℕ} {c : Cursor} → Shows s i c → at_end c.current ≡ not (ltb c.point.index (length s))
  shows-shown (shows {i} le ed) =
      ⊎_elim
      (λ lt. ap at_end (shows-at s i lt) ∙ sym (ap not (lt-ltb (index_shown s i) (length s) (index-inside s i lt))))
      (λ ge. ap at_end (shows-end s i ge) ∙ sym (ap not (le-ltb (index_shown s i) (length s) (omega (arith, index_low s i)))))
      (cases_lt i (length s))

  past_shown-at : {i : ℕ} {c : Cursor} → Past s i c → at_end c.current ≡ not (ltb c.point.index (length s))
  past_shown-at (beyond lt p) = shows-shown p
  past_shown-at (amid_tab le (space {i = j} k lt tb e stop)) = sym (ap not (lt-ltb j (length s) lt))

  fit_shown : {n : StateName} {c : Cursor} {r : Registers} {us : List Attempt} {es : List Event} {ns : List Name} → Fit s n c r us es ns → at_end c.current ≡ not (ltb c.point.index (length s))
  fit_shown (before p cl) = shows-shown p
  fit_shown (line p cl ea lt) = shows-shown p
  fit_shown (text t) = shows-shown t.at
  fit_shown (inside p cl ea) = past_shown-at p
  fit_shown (p_start t) = shows-shown t.at
  fit_shown (w_start t) = shows-shown t.at
  fit_shown (linked t ea p st) = shows-shown p

  -- what a state may count on
  pub fit_ready : {n : StateName} {a : State} {c : Cursor} {r : Registers} {us : List Attempt} {es : List Event} {ns : List Name} → Fit s n c r us es ns → Ready s n (made_of s a c r us es ns)
  fit_ready f =
      record {
        note = refl;
        stack = (fit_shape f).0;
        names = (fit_shape f).1;
        room = fit_room f;
        registers = (fit_within f).0;
        started = (fit_within f).1;
        point = fit_point f;
        shown = fit_shown f;
        captured = fit_holds f;
        tiled = told-nested (fit_told f);
      }

  -- before a CR that is to be passed over
  unready : (c : Cursor) → PointBounded s (ready s c).point → PointBounded s c.point
  unready c b = record { index = omega (arith, index_low s c.point.index, b.index); low_line = b.low_line; line = b.line; low_column = b.low_column; column = b.column; vs = b.vs }

  lawful : {n : StateName} {c : Cursor} {r : Registers} {us : List Attempt} {es : List Event} {ns : List Name} (a : State) (d : Cursor) → PointBounded s d.point → Fit s n c r us es ns → Lawful s (made_of s a d r us es ns)
  lawful {n} a d b f =
      let tiled = told-nested (fit_told f) in
      record {
        note = refl;
        attempts = omega (arith, (fit_shape f).0, depth_three n);
        names = told-one (fit_told f);
        events = told-few (fit_told f);
        registers = (fit_within f).0;
        point = b;
        captured = fit_holds f;
        tiled = tiled;
        nested = tiled-nested tiled;
        ordered = tiled-ordered tiled;
      }

  -- at every moment
  pub sound_lawful : {m : Machine} → Sound s m → Lawful s m
  sound_lawful (next {n} {c} f) = lawful (Next n) c (unready c (fit_point f)) f
  sound_lawful (retry {n} {c} f) = lawful (Retry n) c (fit_point f) f
  sound_lawful (over {c} p cl) = lawful Ok c (place_bounded p) (before p cl)
