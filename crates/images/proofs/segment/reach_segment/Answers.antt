-- `images::segment::reach_segment` meets its contract: what the leases come to picks the arm.
use Rattle.std.proofs.Common.{List, ℕ, refl, sym, ◌∙◌}
use Rattle.std.specs.Prelude.{Result, Ok, Err}
use Rattle.checks.specs.Reached.{Reaches, reach_verdict}
use Rattle.checks.specs.declared.refusal.Refusal.{Refusal}
use Rattle.checks.proofs.ReachLaws.{reach_in, reaches_as}
use Rattle.checks.proofs.ShiftLaws.{shift_closed, shift_open, shift_unsound}
use Rattle.machine.specs.Line.{Line}
use Rattle.images.specs.Segments.{There}
use Rattle.images.proofs.segment.reach_segment.Goals as goal

there : (r : Result ℕ Refusal) (m : ℕ) (t : List ℕ) (k u : ℕ) (l : Line) → Reaches t r (reach_verdict m t k u) l → There r t k
there (Err why) m t k u l h = tt
there (Ok o) m t k u l h = reach_in m t k u h.0

pub returns-in-Unsound-clause-reaches : goal.returns-in-Unsound-clause-reaches
returns-in-Unsound-clause-reaches c = λ φ j. shift_unsound _ _ _ _ _ φ refl (sym c.in-Unsound.is ∙ j)

pub returns-in-Closed-clause-reaches : goal.returns-in-Closed-clause-reaches
returns-in-Closed-clause-reaches c = λ φ j. shift_closed _ _ _ _ _ φ refl (sym c.in-Closed.is ∙ j) ∙ sym c.check_closed.ensures

pub returns-in-Open-clause-reaches : goal.returns-in-Open-clause-reaches
returns-in-Open-clause-reaches c = λ φ j. reaches_as _ c.reach_open.result _ _ _ (shift_open _ _ _ _ _ φ refl (sym c.in-Open.is ∙ j)) c.reach_open.ensures

pub returns-in-Open-clause-there : goal.returns-in-Open-clause-there
returns-in-Open-clause-there c = there c.reach_open.result _ _ _ _ _ c.reach_open.ensures
