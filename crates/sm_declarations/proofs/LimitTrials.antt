-- What is tried of the limits of variables.
use Rattle.std.proofs.Common.{◌≡◌, ◌∙◌, ap, ap₂, sym, refl, subst, ℕ, zero, suc, ◌+◌, ◌-◌, ◌≤◌, ◌<◌, arith, List, length, pos, Ok, Err}
use Rattle.std.specs.Prelude.{Result, min}
use Rattle.std.proofs.lemmas.List.{length-map}
use Rattle.sm_kinds.specs.declared.var.Var.{Var}
use Rattle.sm_kinds.specs.Limits.{most_variables, most_width, most_widths}
use Rattle.sm_data.specs.declared.refusal.Counted.TheVariants as counted
use Rattle.sm_syntax.specs.declared.place.Place.{Place}
use Rattle.sm_syntax.specs.Trees.{Values, set_kind}
use Rattle.sm_meaning.specs.declared.refusal.ExpandRefusal.{ExpandRefusal}
use Rattle.sm_meaning.specs.Refusals.{number_over, count_over}
use Rattle.sm_meaning.specs.Trials.{Trial, reached, ◌▸◌, tried, GoesThrough}
use Rattle.sm_meaning.specs.Scopes.{Scope}
use Rattle.sm_meaning.specs.Expansions.{Declared, Expansion, vars_of}
use Rattle.sm_meaning.specs.Declarations.{widths_tried, set_widths_tried, width_of, widths_of}
use Rattle.sm_meaning.proofs.Steps.{goes_on}
use Rattle.sm_flattening.proofs.Reached.{reaches, count_within}
use Rattle.sm_drafts.specs.Drafts.{Passes}
use Rattle.sm_drafts.proofs.Parts.{passes_same, refused_first}

pub members_few : (l m : ℕ) → Passes (tried (count_over counted.Variables most_variables (l + m))) (Ok tt) → l + m ≤ most_variables
members_few l m h = count_within counted.Variables most_variables (l + m) (reaches (tried (count_over counted.Variables most_variables (l + m))) 0 0 (h 0).0)

-- as many members as were counted, where these are no more than there may be
pub members_pass : (vars : List Var) (e : Expansion) (m n : ℕ) → vars ≡ vars_of e → m ≡ min n (most_variables + 1)
    → Passes (tried (count_over counted.Variables most_variables (length vars + m))) (Ok tt) → (count : ℕ)
    → (tried (count_over counted.Variables most_variables (length e.variables + n)) count ≡ reached count) × (m ≡ n)
members_pass vars e m n is cut h count =
    let few = members_few (length vars) m h in
    let same : m ≡ n = omega (arith, few, cut) in
    let long : length vars ≡ length e.variables = ap (λ vs. length vs) is ∙ length-map e.variables (λ (d : Declared). d.var) in
    (ap₂ (λ l k. tried (count_over counted.Variables most_variables (l + k)) count) (sym long) (sym same) ∙ (h count).0, same)

-- ---- widths

abbrev width_tried : ℕ → Trial
width_tried w = tried (number_over counted.Widths most_widths (pos w))

widths_step : (members i width total : ℕ) → i < members → (count : ℕ)
    → (width_tried (total + width) ▸ widths_tried (members - (i + 1)) width (total + width)) count ≡ widths_tried (members - i) width total count
widths_step members i width total lt count =
    let e : members - i ≡ suc (members - (i + 1)) = omega arith in
    sym (ap (λ k. widths_tried k width total count) e)

pub widths_stop : (e : ExpandRefusal) (members i width total so_far : ℕ) → i < members → ((count : ℕ) → widths_tried members width so_far count ≡ widths_tried (members - i) width total count)
    → Passes (width_tried (total + width)) (Err e) → Passes (widths_tried members width so_far) (Err e)
widths_stop e members i width total so_far lt before h =
    passes_same (width_tried (total + width) ▸ widths_tried (members - (i + 1)) width (total + width)) (widths_tried members width so_far) (Err e)
    (λ count. widths_step members i width total lt count ∙ sym (before count))
    (refused_first e (width_tried (total + width)) (widths_tried (members - (i + 1)) width (total + width)) h)

pub widths_go : (members i width total so_far : ℕ) → i < members → ((count : ℕ) → widths_tried members width so_far count ≡ widths_tried (members - i) width total count)
    → Passes (width_tried (total + width)) (Ok tt) → (count : ℕ) → widths_tried members width so_far count ≡ widths_tried (members - (i + 1)) width (total + width) count
widths_go members i width total so_far lt before h count =
    before count ∙ sym (widths_step members i width total lt count)
    ∙ goes_on (width_tried (total + width)) (widths_tried (members - (i + 1)) width (total + width)) count count (h count).0

pub set_widths : (e : Expansion) (s : Scope) (m : ℕ) (p : Place) (vs : Values) (vars : List Var) (r : Result (Unit {0}) ExpandRefusal) → (m ≡ 0 → ⊥) → vars ≡ vars_of e
    → Passes (tried (number_over counted.Width most_width (pos (width_of s vs))) ▸ widths_tried m (width_of s vs) (widths_of vars)) r → Passes (set_widths_tried e s m (set_kind p vs)) r
set_widths e s zero p vs vars r some is h = absurd (some refl)
set_widths e s (suc m) p vs vars r some is h =
    subst (λ us. Passes (tried (number_over counted.Width most_width (pos (width_of s vs))) ▸ widths_tried (suc m) (width_of s vs) (widths_of us)) r) is h

-- ---- what holds where it is gone through

pub passes_with : (part : Trial) (P : Type 0) (r : Result (Unit {0}) ExpandRefusal) → Passes part r → P → (count : ℕ) → GoesThrough part count count (λ _. P) r
passes_with part P (Ok u) h holds count = ((h count).0, holds)
passes_with part P (Err e) h holds count = h count
