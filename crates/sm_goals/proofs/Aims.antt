-- Aims, one after another: what is left to try, and the forms so far.
use Rattle.std.proofs.Common.{◌≡◌, ◌∙◌, ap, sym, refl, ℕ, List, [], ◌∷◌, ◌++◌, map, length, append_assoc, append-nil, subst, Bool, true, false, ◌==◌, suc, arith, drop, length-drop, ◌+◌, ◌-◌, ◌<◌}
use Rattle.std.proofs.lemmas.Bool.Decides.{nat_tests}
use Rattle.std.proofs.lemmas.List.{map-append, length-map}
use Rattle.sm_forms.specs.Meanings.{Meaning}
use Rattle.sm_flat.specs.declared.goal.Sense.{Sense}
use Rattle.sm_syntax.specs.declared.tree.Aim.{Aim as AimNode}
use Rattle.sm_syntax.specs.Trees.{Aim, aim_of}
use Rattle.sm_meaning.specs.declared.refusal.ExpandRefusal.{ExpandRefusal}
use Rattle.sm_meaning.specs.Scopes.{Scope, count_of}
use Rattle.sm_meaning.specs.Trials.{Outcome, reached, stopped, resumed, nothing_tried, ◌▸◌, IsStopped}
use Rattle.sm_meaning.specs.ExpressionTrials.{expression_tried}
use Rattle.sm_meaning.specs.Places.{place_of}
use Rattle.sm_meaning.specs.Goals.{aim_part, aim_sense, aim_worth, aims_tried}
use Rattle.sm_meaning.proofs.Steps.{stops, goes_on, stopped_same}
use Rattle.sm_drafts.proofs.Parts.{grouped}
use Rattle.sm_goals.specs.Goals.{AreFormsOf, IsAimForm, AreAimForms, aim_tried, no_real_tried}
use Rattle.sm_goals.specs.declared.aim.AimForm.{AimForm}
use Rattle.sm_goals.proofs.Forms.{forms-append}

-- an aim, and then those behind it
pub aim_first : (s : Scope) (a : Aim) (rest : List Aim) (b : Bool) (count : ℕ) → b ≡ (length rest == 0) → aims_tried s (a ∷ rest) count ≡ (aim_tried s a b ▸ aims_tried s rest) count
aim_first s a [] b count is = rw is (alone (expression_tried (aim_part a) s [] count))
  where
    alone : (o : Outcome) → o ≡ resumed o nothing_tried
    alone (stopped e) = refl
    alone (reached n) = refl
aim_first s a (y ∷ ys) b count is =
    rw (is ∙ not_zero (length ys)) (sym (grouped (expression_tried (aim_part a) s []) (no_real_tried s (place_of (aim_part a)) (aim_worth s a)) (aims_tried s (y ∷ ys)) count))
  where
    not_zero : (k : ℕ) → (suc k == 0) ≡ false
    not_zero k = by_test (suc k == 0) refl
      where
        by_test : (t : Bool) → (suc k == 0) ≡ t → (suc k == 0) ≡ false
        by_test true h = grind (arith, nat_tests)
        by_test false h = h

-- no aim follows where none is left
pub none_left : (more : List AimNode) (i left : ℕ) → left + i ≡ length more → i < length more → (left - 1 == 0) ≡ (length (map aim_of (drop (i + 1) more)) == 0)
none_left more i left count lt =
    let rest : left - 1 ≡ length (drop (i + 1) more) = omega (arith, length-drop (i + 1) more) in
    ap (λ (k : ℕ). k == 0) (rest ∙ sym (length-map (drop (i + 1) more) aim_of))

-- What is left to try comes to what all comes to, and the forms are those of the aims before.
pub record AimsLeft (s : Scope) (all : List Aim) (start : ℕ) (rest : List Aim) (now : ℕ) (xs : List AimForm) : Type 0 where
  pub tried : aims_tried s rest now ≡ aims_tried s all start
  pub before : List Aim
  pub split : before ++ rest ≡ all
  pub forms : AreAimForms s before xs

pub left_first : (s : Scope) (all : List Aim) (start : ℕ) → AimsLeft s all start all start []
left_first s all start = record { tried = refl; before = []; split = refl; forms = record { forms = tt; senses = refl } }

one_form_more : (s : Scope) (before : List Aim) (forms : List AimForm) (a : Aim) (x : AimForm) → AreAimForms s before forms → IsAimForm s a x → AreAimForms s (before ++ a ∷ []) (forms ++ x ∷ [])
one_form_more s before forms a x h k = record {
  forms = subst (λ (gs : List Meaning). AreFormsOf (count_of s) gs (forms ++ x ∷ [])) (sym (map-append (aim_worth s) before (a ∷ [])))
      (forms-append (count_of s) (map (aim_worth s) before) (aim_worth s a ∷ []) forms (x ∷ []) h.forms (k.form, tt));
  senses = map-append (λ (y : AimForm). y.sense) forms (x ∷ []) ∙ ap (λ (ys : List Sense). ys ++ x.sense ∷ []) h.senses ∙ ap (λ (y : Sense). map aim_sense before ++ y ∷ []) k.sense ∙ sym (map-append aim_sense before (a ∷ []));
}

pub left_more : (s : Scope) (all : List Aim) (start : ℕ) (a : Aim) (rest : List Aim) (b : Bool) (now after : ℕ) (forms new : List AimForm) (x : AimForm)
    → b ≡ (length rest == 0) → AimsLeft s all start (a ∷ rest) now forms → aim_tried s a b now ≡ reached after → IsAimForm s a x → new ≡ forms ++ x ∷ []
    → AimsLeft s all start rest after new
left_more s all start a rest b now after forms new x last h goes form is = record {
  tried = sym (goes_on (aim_tried s a b) (aims_tried s rest) now after goes) ∙ sym (aim_first s a rest b now last) ∙ h.tried;
  before = h.before ++ a ∷ [];
  split = append_assoc h.before (a ∷ []) rest ∙ h.split;
  forms = rw is (one_form_more s h.before forms a x h.forms form);
}

pub left_stops : (e : ExpandRefusal) (s : Scope) (all : List Aim) (start : ℕ) (a : Aim) (rest : List Aim) (b : Bool) (now : ℕ) (forms : List AimForm)
    → b ≡ (length rest == 0) → AimsLeft s all start (a ∷ rest) now forms → IsStopped e (aim_tried s a b now) → IsStopped e (aims_tried s all start)
left_stops e s all start a rest b now forms last h stop =
    stopped_same e _ _ (sym (aim_first s a rest b now last) ∙ h.tried) (stops e (aim_tried s a b) (aims_tried s rest) now stop)

pub left_ends : (s : Scope) (all : List Aim) (start now : ℕ) (forms : List AimForm) → AimsLeft s all start [] now forms → (aims_tried s all start ≡ reached now) × AreAimForms s all forms
left_ends s all start now forms h = (sym h.tried, subst (λ (xs : List Aim). AreAimForms s xs forms) (sym (append-nil h.before) ∙ h.split) h.forms)
