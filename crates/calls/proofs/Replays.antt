-- A list of calls taken one by one, as a loop over it makes them; and what one sees who looks at the reader at each moment.
-- Assumes nothing.
use Rattle.std.proofs.Common.{◌≡◌, ℕ, zero, suc, ◌+◌, ◌<◌, ◌≤◌, Bool, List, [], ◌∷◌, ◌++◌, length, get_or, take, sym, refl, ap, ◌∙◌, subst, arith}
use lib.Seq.{take-length}
use Rattle.std.proofs.lemmas.List.{take_more}
use Rattle.findings.specs.Findings.{FindsTheLinks}
use Rattle.calls.specs.declared.scripts.Call.{Call}
use Rattle.calls.specs.Calls.{Model, new}
use Rattle.calls.specs.Moments.{after, answers, Moment, Looks, Watched}
use Rattle.calls.specs.Steps.{held, Answer, step}
use Rattle.calls.proofs.EveryMoment.{moment}

-- ---- one call more

module _ (member : ℕ → Bool) where
  pub after_push : (xs : List Call) (c : Call) (m : Model) → after member m (xs ++ c ∷ []) ≡ (step member (after member m xs) c).0
  after_push [] c m = refl
  after_push (x ∷ xs) c m = after_push xs c (step member m x).0

  pub answers_push : (xs : List Call) (c : Call) (m : Model) → answers member m (xs ++ c ∷ []) ≡ answers member m xs ++ (step member (after member m xs) c).1 ∷ []
  answers_push [] c m = refl
  answers_push (x ∷ xs) c m = ap (λ l. (step member m x).1 ∷ l) (answers_push xs c (step member m x).0)

  pub answers-length : (cs : List Call) (m : Model) → length (answers member m cs) ≡ length cs
  answers-length [] m = refl
  answers-length (c ∷ cs) m = ap suc (answers-length cs (step member m c).0)

  answers-take : (k : ℕ) (cs : List Call) (m : Model) → take k (answers member m cs) ≡ answers member m (take k cs)
  answers-take zero cs m = refl
  answers-take (suc k) [] m = refl
  answers-take (suc k) (c ∷ cs) m = ap (λ l. (step member m c).1 ∷ l) (answers-take k cs (step member m c).0)

  -- the readers after each call
  unfoldable pub later : Model → List Call → List Model
  later m [] = []
  later m (c ∷ cs) = (step member m c).0 ∷ later (step member m c).0 cs

  later_push : (xs : List Call) (c : Call) (m : Model) → later m (xs ++ c ∷ []) ≡ later m xs ++ (step member (after member m xs) c).0 ∷ []
  unfolding later
  later_push [] c m = refl
  later_push (x ∷ xs) c m = ap (λ l. (step member m x).0 ∷ l) (later_push xs c (step member m x).0)

  later_length : (cs : List Call) (m : Model) → length (later m cs) ≡ length cs
  unfolding later
  later_length [] m = refl
  later_length (c ∷ cs) m = ap suc (later_length cs (step member m c).0)

  -- the reader of moment number k
  seen_at : (k : ℕ) (cs : List Call) (m d : Model) → k ≤ length cs → get_or (m ∷ later m cs) k d ≡ after member m (take k cs)
  unfolding later
  seen_at zero cs m d h = refl
  seen_at (suc k) [] m d h = absurd (omega arith)
  seen_at (suc k) (c ∷ cs) m d h = seen_at k cs (step member m c).0 d (omega arith)

  -- ---- a loop that makes the calls, and has a watcher look at the reader before the first and after each; after k of them

  pub record Made {W : Type 0} (saw : W → Model → W → Type 0) (calls : List Call) (k : ℕ) (got : List Answer) (before after_ : W) (m : Model) : Type 0 where
    pub reader : m ≡ after member new (take k calls)
    pub answered : got ≡ answers member new (take k calls)
    pub looked : Looks saw before (new ∷ later new (take k calls)) after_

  looks_push : {W : Type 0} (saw : W → Model → W → Type 0) (ms : List Model) (m : Model) (w v u : W) → Looks saw w ms v → saw v m u → Looks saw w (ms ++ m ∷ []) u
  looks_push saw [] m w v u h s = (u, subst (λ x. saw x m u) (sym h) s, refl)
  looks_push saw (x ∷ ms) m w v u h s = (h.0, h.1, looks_push saw ms m h.0 v u h.2 s)

  pub made_none : {W : Type 0} (saw : W → Model → W → Type 0) (calls : List Call) (got : List Answer) (before w : W) (m : Model) → m ≡ new → got ≡ [] → saw before m w → Made saw calls 0 got before w m
  unfolding later
  made_none saw calls got before w m is none s = record { reader = is; answered = none; looked = (w, subst (λ x. saw before x w) is s, refl) }

  -- the set may have changed, but not in what it means
  pub made_more : {W : Type 0} (saw : W → Model → W → Type 0) (meant : ℕ → Bool) (calls : List Call) (k : ℕ) (got got' : List Answer) (before w w' : W) (m m' : Model) (d : Call) (a : Answer) → k < length calls → Made saw calls k got before w m → meant ≡ member → ◌≡◌ {A = Model × Answer} (m', a) (step meant m (get_or calls k d)) → got' ≡ got ++ a ∷ [] → saw w m' w' → Made saw calls (k + 1) got' before w' m'
  unfolding later
  made_more saw meant calls k got got' before w w' m m' d a lt so same e pushed look =
      let c : Call = get_or calls k d in
      let front : take (k + 1) calls ≡ take k calls ++ c ∷ [] = take_more calls k d lt in
      let does : ◌≡◌ {A = Model × Answer} (m', a) (step member (after member new (take k calls)) c) = e ∙ (λ i. step (same i) (so.reader i) c) in
      record {
        reader = ap (λ o. o.0) does ∙ sym (after_push (take k calls) c new) ∙ ap (after member new) (sym front);
        answered = pushed ∙ (λ i. so.answered i ++ (does i).1 ∷ []) ∙ sym (answers_push (take k calls) c new) ∙ ap (answers member new) (sym front);
        looked =
            subst (λ ms. Looks saw before (new ∷ ms) w') (ap (λ x. later new (take k calls) ++ x ∷ []) (ap (λ o. o.0) does) ∙ sym (later_push (take k calls) c new) ∙ ap (later new) (sym front))
            (looks_push saw (new ∷ later new (take k calls)) m' before w w' so.looked look);
      }

  -- ---- and so the claim

  module _ (finds : FindsTheLinks) where
    always : (calls : List Call) (k : ℕ) → k ≤ length calls → Moment member (take k calls) (take k (answers member new calls)) (held (after member new (take k calls)))
    always calls k le =
        subst (λ l. Moment member (take k calls) l (held (after member new (take k calls)))) (sym (answers-take k calls new)) (moment member finds (take k calls))

    pub made_all : {W : Type 0} (saw : W → Model → W → Type 0) (calls : List Call) (k : ℕ) (got : List Answer) (before w : W) (m : Model) → k ≡ length calls → Made saw calls k got before w m → Watched saw member calls got before w m
    made_all saw calls k got before w m e so =
        let whole : take k calls ≡ calls = ap (λ n. take n calls) e ∙ take-length calls in
        let told : got ≡ answers member new calls = so.answered ∙ ap (answers member new) whole in
        record {
          moments = new ∷ later new calls;
          each_answered = ap length told ∙ answers-length calls new;
          each_shown = ap suc (later_length calls new) ∙ omega arith;
          shown = subst (λ cs. Looks saw before (new ∷ later new cs) w) whole so.looked;
          each_led = λ j le. seen_at j calls new new le;
          always = λ j le.
              subst (λ l. Moment member (take j calls) (take j l) (held (get_or (new ∷ later new calls) j new))) (sym told)
              (subst (λ x. Moment member (take j calls) (take j (answers member new calls)) (held x)) (sym (seen_at j calls new new le)) (always calls j le));
          last_moment = seen_at (length calls) calls new new (omega arith) ∙ ap (after member new) (take-length calls) ∙ sym (so.reader ∙ ap (after member new) whole);
        }
