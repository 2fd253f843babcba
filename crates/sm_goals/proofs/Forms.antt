-- Forms of meanings, one after another.
use Rattle.std.proofs.Common.{◌≡◌, ◌∙◌, ap, ap₂, sym, refl, ℕ, zero, suc, ◌+◌, ◌<◌, arith, List, [], ◌∷◌, ◌++◌, map, length, drop, get_or, rules, Bool, true, false, if◌then◌else◌}
use Rattle.std.specs.Prelude.{All, ℤ, pos, not, ◌&&◌, ◌||◌}
use Rattle.std.specs.Ordering.{int_eq}
use Rattle.std.proofs.lemmas.List.Elements.{All-cons}
use Rattle.std.proofs.lemmas.List.Folds.{list_any-append}
use Rattle.sm_forms.specs.Meanings.{Meaning, coefficient, terms_of}
use Rattle.sm_forms.specs.Forms.{IsFormOf}
use Rattle.sm_forms.proofs.Queries.{constant_is, terms_of_form}
use Rattle.sm_flat.specs.declared.goal.Goal.{Goal as FlatGoal}
use Rattle.sm_kinds.specs.Vars.{is_real_kind}
use Rattle.sm_syntax.specs.Trees.{Goal}
use Rattle.sm_meaning.specs.Cases.{kind_at}
use Rattle.sm_meaning.specs.Limits.{has_real}
use Rattle.sm_meaning.specs.Scopes.{Scope, count_of}
use Rattle.sm_meaning.specs.Goals.{goal_worths, senses_of}
use Rattle.sm_flattening.specs.Flattening.{goal_numbers, meaning_numbers}
use Rattle.sm_flattening.specs.Regularity.{IsAffine}
use Rattle.sm_flattening.proofs.Affine.{form_affine}
use Rattle.sm_goals.specs.Goals.{AreFormsOf, AreGoalsOf, goal_in, has_real_term}
use Rattle.sm_goals.specs.declared.aim.AimForm.{AimForm}

pub forms-length : (n : ℕ) (gs : List Meaning) (xs : List AimForm) → AreFormsOf n gs xs → length gs ≡ length xs
forms-length n [] [] h = refl
forms-length n [] (x ∷ xs) h = absurd h
forms-length n (g ∷ gs) [] h = absurd h
forms-length n (g ∷ gs) (x ∷ xs) h = ap suc (forms-length n gs xs h.1)

-- the meanings from number i on begin with that of form number i
pub record FormAt (n : ℕ) (gs : List Meaning) (i : ℕ) (x : AimForm) : Type 0 where
  pub meaning : Meaning
  pub split : drop i gs ≡ meaning ∷ drop (i + 1) gs
  pub form : IsFormOf n meaning x.form

pub form_at : (n : ℕ) (gs : List Meaning) (xs : List AimForm) (i : ℕ) (x : AimForm) → AreFormsOf n gs xs → i < length xs → x ≡ get_or xs i x → FormAt n gs i x
form_at n [] [] i x h lt is = absurd (omega arith)
form_at n [] (y ∷ ys) i x h lt is = absurd h
form_at n (g ∷ gs) [] i x h lt is = absurd h
form_at n (g ∷ gs) (y ∷ ys) zero x h lt is = record { meaning = g; split = refl; form = rw is h.0 }
form_at n (g ∷ gs) (y ∷ ys) (suc i) x h lt is =
    let later = form_at n gs ys i x h.1 (omega arith) is in
    let next : suc (i + 1) ≡ suc i + 1 = omega arith in
    record { meaning = later.meaning; split = later.split ∙ ap (λ k. later.meaning ∷ drop k (g ∷ gs)) next; form = later.form }

-- one more form behind the others
pub forms-append : (n : ℕ) (gs hs : List Meaning) (xs ys : List AimForm) → AreFormsOf n gs xs → AreFormsOf n hs ys → AreFormsOf n (gs ++ hs) (xs ++ ys)
forms-append n [] hs [] ys h k = k
forms-append n [] hs (x ∷ xs) ys h k = absurd h
forms-append n (g ∷ gs) hs [] ys h k = absurd h
forms-append n (g ∷ gs) hs (x ∷ xs) ys h k = (h.0, forms-append n gs hs xs ys h.1 k)

-- the goals of forms
pub goals_numbers : (n : ℕ) (gs : List Meaning) (xs : List AimForm) → AreFormsOf n gs xs → map goal_numbers (map goal_in xs) ≡ map (meaning_numbers n) gs
goals_numbers n [] [] h = refl
goals_numbers n [] (x ∷ xs) h = absurd h
goals_numbers n (g ∷ gs) [] h = absurd h
goals_numbers n (g ∷ gs) (x ∷ xs) h =
    ap₂ (λ (y : List (ℕ × ℤ) × ℤ) ys. y ∷ ys)
    (ap₂ (λ (ts : List (ℕ × ℤ)) (z : ℤ). (ts, z)) (terms_of_form n g x.form h.0) (sym (constant_is n g x.form h.0)))
    (goals_numbers n gs xs h.1)

pub goals_affine : (n : ℕ) (gs : List Meaning) (xs : List AimForm) → AreFormsOf n gs xs → All (IsAffine n) gs
goals_affine n [] [] h = search rules
goals_affine n [] (x ∷ xs) h = absurd h
goals_affine n (g ∷ gs) [] h = absurd h
goals_affine n (g ∷ gs) (x ∷ xs) h = All-cons (IsAffine n) g gs (form_affine n g x.form h.0) (goals_affine n gs xs h.1)

goals_senses : (xs : List AimForm) → map (λ (x : FlatGoal). x.sense) (map goal_in xs) ≡ map (λ (x : AimForm). x.sense) xs
goals_senses [] = refl
goals_senses (x ∷ xs) = ap (λ ys. x.sense ∷ ys) (goals_senses xs)

pub goals_of : (s : Scope) (g : Goal) (xs : List AimForm) → AreFormsOf (count_of s) (goal_worths s g) xs → map (λ (x : AimForm). x.sense) xs ≡ senses_of g
    → AreGoalsOf s g (map goal_in xs)
goals_of s g xs h senses = record {
  numbers = goals_numbers (count_of s) (goal_worths s g) xs h;
  senses = goals_senses xs ∙ senses;
  affine = goals_affine (count_of s) (goal_worths s g) xs h;
}

-- ---- real variables

any_or_none : (s : Scope) (b : Bool) (t : ℕ × ℤ) → has_real_term s (if b then [] else t ∷ []) ≡ (not b && is_real_kind (kind_at s t.0))
any_or_none s true t = refl
any_or_none s false t = or_false (is_real_kind (kind_at s t.0))
  where
    or_false : (b : Bool) → (b || false) ≡ b
    or_false true = refl
    or_false false = refl

pub real_terms : (s : Scope) (n : ℕ) (g : Meaning) → has_real_term s (terms_of n g) ≡ has_real s n g
real_terms s zero g = refl
real_terms s (suc n) g =
    list_any-append (λ (t : ℕ × ℤ). is_real_kind (kind_at s t.0)) (terms_of n g) (if int_eq (coefficient g n) (pos 0) then [] else (n, coefficient g n) ∷ [])
    ∙ ap₂ (λ (x y : Bool). x || y) (real_terms s n g) (any_or_none s (int_eq (coefficient g n) (pos 0)) (n, coefficient g n))
