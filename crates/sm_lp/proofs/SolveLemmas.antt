-- One move of the path, and that it makes the measure less.
use Rattle.std.proofs.Common.{◌≡◌, ℕ, suc, ◌<◌, ◌^◌, sym, ap, ◌∙◌, subst, inl}
use Rattle.std.specs.Prelude.{Some}
use Rattle.sm_frac.specs.Frac.{value_of}
use Rattle.sm_frac.specs.declared.operation.Op.{Op}
use Rattle.sm_frac.specs.declared.fraction.Frac.{Frac}
use Rattle.std.proofs.Math.Logic.{⊎_elim}
use Rattle.sm_certificate.specs.declared.program.Program.{Program}
use Rattle.sm_lp.specs.Dictionary.{Dictionary, pivot}
use Rattle.sm_lp.specs.Moves.{IsMove, IsOptimal}
use Rattle.sm_lp.specs.Turn.{HasLeaving}
use Rattle.sm_certificate.specs.Program.{column_count}
use Rattle.sm_lp.specs.First.{first}
use Rattle.sm_certificate.specs.Slacks.{slack_count, number_count}
use Rattle.sm_lp.specs.Steps.{IsPassingStep, IsPivotStep, IsEndStep, Stands}
use Rattle.sm_lp.specs.Moved.{IsPassedMove, MoveStands}
use Rattle.sm_lp.specs.Path.{successor, IsOnPath}
use Rattle.sm_lp.proofs.Count.{steps_left}
use Rattle.sm_lp.proofs.RuleLemmas.{move_falls}
use Rattle.sm_lp.proofs.NextLemmas.{move_next, optimal_next, one_move}
use Rattle.sm_lp.proofs.PathLemmas.{no_next}
use Rattle.sm_lp.proofs.FirstLemmas.{IsTracked, reached_tracked, some_leaves}

pub path_tracked : (p : Program) (d : Dictionary) → IsOnPath p d → IsTracked p d
path_tracked p d h = reached_tracked p h.0 d h.1

pub path_leaves : (p : Program) (d : Dictionary) (f g : ℕ) → f ≡ column_count p → g ≡ slack_count p → IsOnPath p d → HasLeaving d f g
path_leaves p d f g ef eg h = subst (λ (x : ℕ). HasLeaving d x g) (sym ef) (subst (λ (x : ℕ). HasLeaving d (column_count p) x) (sym eg) (some_leaves p d (path_tracked p d h)))

pub move_here : (p : Program) (d : Dictionary) (f g r c : ℕ) → f ≡ column_count p → g ≡ slack_count p → IsMove d f g r c → IsMove d (column_count p) (slack_count p) r c
move_here p d f g r c ef eg m = subst (λ (x : ℕ). IsMove d x (slack_count p) r c) ef (subst (λ (x : ℕ). IsMove d f x r c) eg m)

pub path_start : (p : Program) (d : Dictionary) → d ≡ first p → IsOnPath p d
path_start p d e = (0, e)

pub move_falls_here : (p : Program) (d e : Dictionary) (r c : ℕ) → IsOnPath p d → IsMove d (column_count p) (slack_count p) r c → e ≡ pivot d r c → steps_left (successor p) (2 ^ number_count p) e < steps_left (successor p) (2 ^ number_count p) d
move_falls_here p d e r c h m is =
    let good = (path_tracked p d h).dictionary.good in
    subst (λ (x : Dictionary). steps_left (successor p) (2 ^ number_count p) x < steps_left (successor p) (2 ^ number_count p) d) (sym is)
    (move_falls (column_count p) (slack_count p) (number_count p) d (pivot d r c) good (move_next d (column_count p) (slack_count p) (number_count p) good r c m))

-- no step at a dictionary passes where none of its one move does
pub move_stands_here : (p : Program) (d : Dictionary) (r c : ℕ) → IsOnPath p d → IsMove d (column_count p) (slack_count p) r c → MoveStands d r c → Stands p d
move_stands_here p d r c h m stands op left right s =
    let good = (path_tracked p d h).dictionary.good in
    ⊎_elim
    (λ (a : (r' : ℕ) × (c' : ℕ) × IsMove d (column_count p) (slack_count p) r' c' × IsPivotStep d r' c' op (value_of left) (value_of right)).
    let same = one_move d (column_count p) (slack_count p) (number_count p) good a.0 a.1 r c a.2 m in
    stands op left right (record { step = subst (λ (x : ℕ). IsPivotStep d r x op (value_of left) (value_of right)) same.1 (subst (λ (x : ℕ). IsPivotStep d x a.1 op (value_of left) (value_of right)) same.0 a.3); passes = s.passes }))
    (λ (b : IsOptimal d (column_count p) (slack_count p) × IsEndStep p d op (value_of left) (value_of right)).
    no_next (pivot d r c) (sym (optimal_next d (column_count p) (slack_count p) (number_count p) good b.0) ∙ move_next d (column_count p) (slack_count p) (number_count p) good r c m))
    s.step

pub path_next : (p : Program) (d e : Dictionary) (r c : ℕ) → IsOnPath p d → IsMove d (column_count p) (slack_count p) r c → MoveStands d r c → e ≡ pivot d r c → IsOnPath p e
path_next p d e r c h m stands is =
    let good = (path_tracked p d h).dictionary.good in
    (suc h.0, (d, h.1, move_stands_here p d r c h m stands, move_next d (column_count p) (slack_count p) (number_count p) good r c m ∙ ap (λ (x : Dictionary). Some x) (sym is)))

-- a step of the move that passes is one at the dictionary
pub move_passes_here : (p : Program) (d : Dictionary) (r c : ℕ) (op : Op) (left right : Frac) → IsMove d (column_count p) (slack_count p) r c → IsPassedMove d r c op left right → IsPassingStep p d op left right
move_passes_here p d r c op left right m s = record { step = inl (r, c, m, s.step); passes = s.passes }
