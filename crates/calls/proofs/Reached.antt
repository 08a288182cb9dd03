-- A machine that was run from the beginning of a note, in any parts: its events are lawful, and when its end is done they are those
-- of the segments.
-- Assumes nothing.
use Rattle.std.proofs.Common.{◌≡◌, ℕ, Bool, true, List, [], ◌∷◌, ◌++◌, sym, refl, ap, ◌∙◌, subst, ⊎_elim, append-nil}
use Rattle.std.specs.List.{AllByRecursion}
use Rattle.machine.specs.declared.cursors.Until.{Until}
use Rattle.machine.specs.declared.cursors.Until.TheVariants.{End}
use Rattle.machine.specs.declared.events.Event.{Event}
use Rattle.machine.specs.declared.events.EventKind.TheVariants.{Enter}
use Rattle.machine.specs.declared.events.Name.{Name}
use Rattle.machine.specs.Invariant.{Sound}
use Rattle.machine.specs.Joins.{joined}
use Rattle.machine.specs.Laws.{event_at, Segment, events_of, Tiled, Part, in_parts}
use Rattle.machine.specs.Moves.{Machine}
use Rattle.machine.specs.Runs.{beginning, run}
use Rattle.machine.proofs.Keeps.{sound_beginning}
use Rattle.machine.proofs.Facts.{sound_lawful}
use Rattle.machine.proofs.Turns.{settled_sound, run_sound}
use Rattle.findings.specs.Findings.{Finds}
use Rattle.calls.specs.EventLists.{LawfulEvents}
use Rattle.calls.specs.Links.{ended_events}
use Rattle.calls.proofs.Spans.{AtEdges, tiles_full, nests-events, placed_at, placed-events}
use Rattle.calls.proofs.Aside.{Aside, run_aside}

-- ---- tiled events are lawful

edges_of : (note : List ℕ) (xs : List Segment) (es : List Event) → Aside note (events_of note xs ++ es) → AllByRecursion (AtEdges note) xs × Aside note es
edges_of note [] es h = (tt, h)
edges_of note (x ∷ xs) es h = let w = edges_of note xs es h.1.1 in (((h.0.edge, h.1.0.edge), w.0), w.1)

pub tiled-lawful : (note : List ℕ) (es : List Event) (ns : List Name) → Tiled note es ns → Aside note es → LawfulEvents note es
tiled-lawful note es ns t h =
    ⊎_elim
    (λ a.
    let is : es ≡ events_of note t.segments ++ [] = a.0 ∙ sym (append-nil (events_of note t.segments)) in
    let k = edges_of note t.segments [] (subst (Aside note) is h) in
    subst (LawfulEvents note) (sym is)
    (record {
      nested = nests-events note t.segments [] [] (tiles_full t.segments 0 t.to t.tiles) refl;
      placed = placed-events note t.segments 0 t.to [] t.tiles t.inside k.0 tt;
    }))
    (λ a.
    let last = event_at note Enter a.0 t.to ∷ [] in
    let k = edges_of note t.segments last (subst (Aside note) a.1 h) in
    subst (LawfulEvents note) (sym a.1)
    (record {
      nested = nests-events note t.segments [] last (tiles_full t.segments 0 t.to t.tiles) refl;
      placed = placed-events note t.segments 0 t.to last t.tiles t.inside k.0 (placed_at note Enter a.0 t.to t.inside k.1.0.edge, tt);
    }))
    t.are

-- ---- machines that were run in parts

module _ (member : ℕ → Bool) where
  abbrev after-parts : List Part → Machine → Machine
  after-parts [] m = m
  after-parts (p ∷ ps) m = after-parts ps (run member p.until p.allowance m).after

  pub record Reached (note : List ℕ) (m : Machine) : Type 0 where
    pub parts : List Part
    pub by_parts : m ≡ after-parts parts (beginning note)

  pub reached_first : (note : List ℕ) → Reached note (beginning note)
  reached_first note = record { parts = []; by_parts = refl }

  parts-push : (ps : List Part) (p : Part) (m : Machine) → after-parts (ps ++ p ∷ []) m ≡ (run member p.until p.allowance (after-parts ps m)).after
  parts-push [] p m = refl
  parts-push (q ∷ ps) p m = parts-push ps p (run member q.until q.allowance m).after

  pub reached_more : (note : List ℕ) (until : Until) (allowance : ℕ) (m : Machine) → Reached note m → Reached note (run member until allowance m).after
  reached_more note until allowance m r =
      let p : Part = record { until = until; allowance = allowance } in
      record {
        parts = r.parts ++ p ∷ [];
        by_parts = ap (λ (k : Machine). (run member until allowance k).after) r.by_parts ∙ sym (parts-push r.parts p (beginning note));
      }

  -- ---- lawful

  parts_sound : (note : List ℕ) (ps : List Part) (m : Machine) → Sound note m → Sound note (after-parts ps m)
  parts_sound note [] m h = h
  parts_sound note (p ∷ ps) m h = parts_sound note ps _ (run_sound note member p.until p.allowance m (settled_sound note h))

  parts_aside : (ps : List Part) (m : Machine) → Aside m.note m.events → Aside (after-parts ps m).note (after-parts ps m).events
  parts_aside [] m h = h
  parts_aside (p ∷ ps) m h = parts_aside ps _ (run_aside member p.until p.allowance m h)

  module _ {note : List ℕ} {m : Machine} (r : Reached note m) where
    pub reached_sound : Sound note m
    reached_sound = subst (Sound note) (sym r.by_parts) (parts_sound note r.parts (beginning note) (sound_beginning note))

    pub reached_note : m.note ≡ note
    reached_note = (sound_lawful reached_sound).note

    pub reached_aside : Aside note m.events
    reached_aside =
        subst (λ s. Aside s m.events) reached_note
        (subst (λ (k : Machine). Aside k.note k.events) (sym r.by_parts) (parts_aside r.parts (beginning note) tt))

    pub reached_lawful : LawfulEvents note m.events
    reached_lawful = tiled-lawful note m.events m.names (sound_lawful reached_sound).tiled reached_aside

  -- ---- and when the end is done

  parts-done : (ps : List Part) (last : Part) (m : Machine) → (in_parts member ps last m).done ≡ (run member last.until last.allowance (after-parts ps m)).done
  parts-done [] last m = refl
  parts-done (p ∷ ps) last m = parts-done ps last (run member p.until p.allowance m).after

  parts-after : (ps : List Part) (last : Part) (m : Machine) → (in_parts member ps last m).after ≡ (run member last.until last.allowance (after-parts ps m)).after
  parts-after [] last m = refl
  parts-after (p ∷ ps) last m = parts-after ps last (run member p.until p.allowance m).after

  pub reached_end : (note : List ℕ) → Finds member note → (allowance : ℕ) (m : Machine) → Reached note m → (run member End allowance m).done ≡ true → joined (run member End allowance m).after.events ≡ ended_events member note
  reached_end note finds allowance m r e =
      let last : Part = record { until = End; allowance = allowance } in
      let over : (in_parts member r.parts last (beginning note)).done ≡ true =
      parts-done r.parts last (beginning note) ∙ ap (λ (k : Machine). (run member End allowance k).done) (sym r.by_parts) ∙ e in
      ap (λ (k : Machine). joined (run member End allowance k).after.events) r.by_parts
      ∙ ap (λ (k : Machine). joined k.events) (sym (parts-after r.parts last (beginning note)))
      ∙ finds.found r.parts allowance over
