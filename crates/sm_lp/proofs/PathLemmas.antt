-- The path is one chain: where its last dictionary stands, all stand.
use Rattle.std.proofs.Common.{◌≡◌, ℕ, suc, zero, ◌<◌, sym, ap, ◌∙◌, arith, subst}
use Rattle.std.specs.Prelude.{Option, Some, None}
use Rattle.std.proofs.lemmas.Bool.{cases_order}
use Rattle.std.proofs.Math.Logic.{⊎_elim}
use Rattle.sm_certificate.specs.declared.program.Program.{Program}
use Rattle.sm_lp.specs.Dictionary.{Dictionary}
use Rattle.sm_lp.specs.Steps.{Stands}
use Rattle.sm_lp.specs.Path.{successor, IsReached, IsOnPath}

some_same : (d e : Dictionary) → ◌≡◌ {A = Option Dictionary} (Some d) (Some e) → d ≡ e
some_same d e h = cc

pub no_next : (d : Dictionary) → ◌≡◌ {A = Option Dictionary} None (Some d) → ⊥
no_next d h = absurd (cc)

pub reached_same : (p : Program) (k : ℕ) (d e : Dictionary) → IsReached p k d → IsReached p k e → d ≡ e
reached_same p zero d e h g = h ∙ sym g
reached_same p (suc k) d e h g =
    let same = reached_same p k h.0 g.0 h.1 g.1 in
    some_same d e (sym h.3 ∙ ap (successor p) same ∙ g.3)

-- every dictionary before the one reached stands, and has a successor
pub reached_before : (p : Program) (j k : ℕ) (d : Dictionary) → j < k → IsReached p k d → (e : Dictionary) × IsReached p j e × Stands p e × ((f : Dictionary) × (successor p e ≡ Some f))
reached_before p j zero d l h = absurd (omega arith)
reached_before p j (suc k) d l h = ⊎_elim
    (λ (e : j ≡ k). subst (λ (i : ℕ). (e : Dictionary) × IsReached p i e × Stands p e × ((f : Dictionary) × (successor p e ≡ Some f))) (sym e) (h.0, h.1, h.2, (d, h.3)))
    (λ o. reached_before p j k h.0 (⊎_elim (λ (lt : j < k). lt) (λ (gt : k < j). absurd (omega arith)) o) h.1)
    (cases_order j k)

pub path_stands : (p : Program) (d : Dictionary) → IsOnPath p d → successor p d ≡ None → Stands p d → (e : Dictionary) → IsOnPath p e → Stands p e
path_stands p d h last stands e g = ⊎_elim
    (λ (same : g.0 ≡ h.0). subst (Stands p) (sym (reached_same p h.0 e d (subst (λ (k : ℕ). IsReached p k e) same g.1) h.1)) stands)
    (λ o. ⊎_elim
    (λ (before : g.0 < h.0).
    let b = reached_before p g.0 h.0 d before h.1 in
    subst (Stands p) (sym (reached_same p g.0 e b.0 g.1 b.1)) b.2)
    (λ (after : h.0 < g.0).
    let b = reached_before p h.0 g.0 e after g.1 in
    absurd (no_next b.3.0 (sym last ∙ ap (successor p) (reached_same p h.0 d b.0 h.1 b.1) ∙ b.3.1))) o)
    (cases_order g.0 h.0)
