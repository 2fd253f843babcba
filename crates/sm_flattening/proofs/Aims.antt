-- The goals of a text that isn't refused are within their limits.
use Rattle.std.proofs.Common.{◌≡◌, ◌≢◌, ◌∙◌, ap, sym, refl, subst, ℕ, zero, suc, arith, ◌<◌, ◌≤◌, ◌+◌, List, [], ◌∷◌, map, length, get_or, ℤ, pos, false, None}
use Rattle.std.specs.Prelude.{All}
use Rattle.std.proofs.lemmas.Bool.{or_parts}
use Rattle.std.proofs.lemmas.List.{length-map, get_or-map, append-nil}
use Rattle.std.proofs.lemmas.List.Elements.{All-nil, All-cons, All-head, All-tail, All-same, All-weaker}
use Rattle.sm_kinds.specs.declared.var.Var.{Var}
use Rattle.sm_kinds.specs.Limits.{IsSmall, greatest_number, most_variables, most_goals, most_goal_terms}
use Rattle.sm_kinds.specs.Sums.{IsSum}
use Rattle.sm_kinds.specs.Vars.{IsDiscrete, is_real, var_at}
use Rattle.sm_flat.specs.declared.goal.Goal.{Goal}
use Rattle.sm_flat.specs.declared.goal.Sense.{Sense}
use Rattle.sm_flat.specs.declared.goal.Sense.TheVariants.{Minimise, Maximise, Satisfy}
use Rattle.sm_flat.specs.Goals.{no_goal}
use Rattle.sm_flat.specs.Limits as flat_limits
use Rattle.sm_flat.specs.Limits.{IsGoal, StandsAlone, RealsLast, AreGoals}
use Rattle.sm_data.specs.declared.refusal.Counted.TheVariants as counted
use Rattle.sm_syntax.specs.Trees as tree
use Rattle.sm_syntax.specs.Trees.{Aim, minimise, maximise}
use Rattle.sm_forms.specs.Meanings.{Meaning, constant_of, coefficient_above, terms_of}
use Rattle.sm_meaning.specs.declared.refusal.Wrong.TheVariants.{Kind}
use Rattle.sm_meaning.specs.Refusals.{wrong_if}
use Rattle.sm_meaning.specs.Trials.{Trial, ◌▸◌, tried, each_tried}
use Rattle.sm_meaning.specs.Scopes.{Scope, count_of}
use Rattle.sm_meaning.specs.Worths.{whole}
use Rattle.sm_meaning.specs.Places.{place_of}
use Rattle.sm_meaning.specs.ExpressionTrials.{expression_tried}
use Rattle.sm_meaning.specs.Limits.{coefficients_tried, numbers_tried, count_tried, has_real}
use Rattle.sm_meaning.specs.Goals.{aim_part, aim_sense, aim_worth, aims_of, goal_worths, senses_of, aims_tried, goal_tried}
use Rattle.sm_flattening.specs.Flattening.{goal_numbers, meaning_numbers}
use Rattle.sm_flattening.proofs.Counts.{count_is, real_meaning}
use Rattle.sm_flattening.proofs.Lists.{all_map}
use Rattle.sm_flattening.proofs.MeaningTerms.{terms_below, terms_few, terms_sum}
use Rattle.sm_flattening.proofs.Reached.{Reaches, both, each_all, nothing_wrong, none_over, count_within, numbers_within}
use Rattle.sm_flattening.proofs.Roles.{not_real}

-- ---- what the trials say of aims

module _ (s : Scope) where
  abbrev coefficients_trial : Aim → Trial
  coefficients_trial x = coefficients_tried (count_of s) (aim_worth s x)

  record AimsFit (xs : List Aim) : Type 0 where
    each : Reaches (aims_tried s xs)
    coefficients : All (λ x. coefficient_above greatest_number (count_of s) (aim_worth s x) ≡ None) xs
    constants : All IsSmall (map (λ x. constant_of (aim_worth s x)) xs)
    few : length xs ≤ most_goals

  aims_fit : (g : tree.Goal) → Reaches (goal_tried s g) → AimsFit (aims_of g)
  aims_fit g h =
      let xs = aims_of g in
      let aims = aims_tried s xs in
      let coefficients = each_tried coefficients_trial xs in
      let constants = numbers_tried counted.Bound greatest_number (map (λ x. constant_of (aim_worth s x)) xs) in
      let few = count_tried counted.Objectives most_goals (length xs) in
      let first = both aims (coefficients ▸ constants ▸ few) h in
      let second = both coefficients (constants ▸ few) first.1 in
      let third = both constants few second.1 in
      record {
        each = first.0;
        coefficients = each_all (λ x. coefficient_above greatest_number (count_of s) (aim_worth s x) ≡ None) coefficients_trial
            (λ x. none_over counted.Coefficient greatest_number (coefficient_above greatest_number (count_of s) (aim_worth s x))) xs second.0;
        constants = numbers_within counted.Bound greatest_number (map (λ x. constant_of (aim_worth s x)) xs) third.0;
        few = count_within counted.Objectives most_goals (length xs) third.1;
      }

  -- no aim but the last is of a real variable
  whole_aims : (xs : List Aim) (d : Aim) → Reaches (aims_tried s xs) → (k : ℕ) → k + 1 < length xs → has_real s (count_of s) (aim_worth s (get_or xs k d)) ≡ false
  whole_aims [] d h k lt = absurd (omega arith)
  whole_aims (x ∷ []) d h k lt = absurd (omega arith)
  whole_aims (x ∷ y ∷ ys) d h k lt =
      let test = tried (wrong_if (has_real s (count_of s) (aim_worth s x)) (place_of (aim_part x)) Kind) in
      let first = both (expression_tried (aim_part x) s []) (test ▸ aims_tried s (y ∷ ys)) h in
      let second = both test (aims_tried s (y ∷ ys)) first.1 in
      by_index k lt (nothing_wrong (has_real s (count_of s) (aim_worth s x)) (place_of (aim_part x)) Kind second.0) (whole_aims (y ∷ ys) d second.1)
    where
      IsWholeAt : List Aim → ℕ → Type 0
      IsWholeAt xs k = has_real s (count_of s) (aim_worth s (get_or xs k d)) ≡ false

      by_index : (k : ℕ) → k + 1 < length (x ∷ y ∷ ys) → IsWholeAt (x ∷ y ∷ ys) 0 → ((j : ℕ) → j + 1 < length (y ∷ ys) → IsWholeAt (y ∷ ys) j) → IsWholeAt (x ∷ y ∷ ys) k
      by_index zero lt here rest = here
      by_index (suc k) lt here rest = rest k (omega arith)

-- ---- goals with the numbers of meanings

-- terms and a constant that are within the limits of a goal
record AreGoalNumbers (vars : List Var) (x : List (ℕ × ℤ) × ℤ) : Type 0 where
  sum : IsSum vars x.0
  few : length x.0 ≤ most_goal_terms
  small : IsSmall x.1

each_goal : (vars : List Var) (gs : List Meaning) (goals : List Goal) → All (λ g. AreGoalNumbers vars (meaning_numbers (length vars) g)) gs
    → map goal_numbers goals ≡ map (meaning_numbers (length vars)) gs → All (IsGoal vars) goals
each_goal vars gs goals h same =
    let P = AreGoalNumbers vars in
    let numbers = All-same P (map goal_numbers goals) (map (meaning_numbers (length vars)) gs) same ((all_map P (meaning_numbers (length vars)) gs).0 h) in
    All-weaker (λ g. P (goal_numbers g)) (IsGoal vars) (λ g n. record { sum = n.sum; few = n.few; small = n.small }) goals ((all_map P goal_numbers goals).1 numbers)

-- of goals that each have something better or worse none has to stand alone
none_alone : (count : ℕ) (goals : List Goal) → All (λ (g : Goal). g.sense ≢ Satisfy) goals → All (λ (g : Goal). StandsAlone count g g.sense) goals
none_alone count goals = All-weaker (λ (g : Goal). g.sense ≢ Satisfy) (λ (g : Goal). StandsAlone count g g.sense) (λ g. by_sense g g.sense) goals
  where
    by_sense : (g : Goal) (s : Sense) → s ≢ Satisfy → StandsAlone count g s
    by_sense g Minimise other = tt
    by_sense g Maximise other = tt
    by_sense g Satisfy other = absurd (other refl)

-- terms without a real variable are of variables with whole values
discrete_terms : (vars : List Var) (ts : List (ℕ × ℤ)) → All (λ t. t.0 < length vars) ts → flat_limits.has_real vars ts ≡ false → All (λ t. IsDiscrete vars t.0) ts
discrete_terms vars [] known none = All-nil (λ t. IsDiscrete vars t.0)
discrete_terms vars (t ∷ ts) known none =
    let parts = or_parts (is_real vars t.0) (flat_limits.has_real vars ts) none in
    All-cons (λ t. IsDiscrete vars t.0) t ts
    (record { known = All-head (λ t. t.0 < length vars) t ts known; kind = not_real (var_at vars t.0).kind parts.0 })
    (discrete_terms vars ts (All-tail (λ t. t.0 < length vars) t ts known) parts.1)

-- ---- the goals of a text

zero_terms : (n : ℕ) → terms_of n (whole (pos 0)) ≡ []
zero_terms zero = refl
zero_terms (suc n) = append-nil (terms_of n (whole (pos 0))) ∙ zero_terms n

module _ (vars : List Var) (s : Scope) (kinds : s.kinds ≡ map (λ (v : Var). v.kind) vars) (few : length vars ≤ most_variables) where
  abbrev size : ℕ
  size = length vars

  -- where any solution will do, the goal stands alone and is 0
  any_goal : (goals : List Goal) → map goal_numbers goals ≡ meaning_numbers size (whole (pos 0)) ∷ [] → map (λ (g : Goal). g.sense) goals ≡ Satisfy ∷ [] → AreGoals vars goals
  any_goal [] same senses = absurd (cc)
  any_goal (g ∷ h ∷ hs) same senses = absurd (cc)
  any_goal (g ∷ []) same senses =
      let numbers : goal_numbers g ≡ meaning_numbers size (whole (pos 0)) = cc in
      let terms : g.terms ≡ [] = ap (λ (x : List (ℕ × ℤ) × ℤ). x.0) numbers ∙ zero_terms size in
      let constant : g.constant ≡ pos 0 = ap (λ (x : List (ℕ × ℤ) × ℤ). x.1) numbers in
      let sense : g.sense ≡ Satisfy = cc in
      record {
        some = omega arith;
        few = omega arith;
        each = All-cons (IsGoal vars) g [] (record {
          sum = subst (IsSum vars) (sym terms) (record { known = All-nil (λ t. t.0 < length vars); rising = λ k lt. absurd (omega arith); nonzero = All-nil (λ t. t.1 ≢ pos 0); small = All-nil (λ t. IsSmall t.1) });
          few = subst (λ ts. length ts ≤ most_goal_terms) (sym terms) (omega arith);
          small = subst IsSmall (sym constant) (omega arith);
        }) (All-nil (IsGoal vars));
        alone = All-cons (λ (x : Goal). StandsAlone 1 x x.sense) g [] (subst (StandsAlone 1 g) (sym sense) (refl, terms, constant)) (All-nil (λ (x : Goal). StandsAlone 1 x x.sense));
        reals = λ k lt. absurd (omega arith);
      }

  aim_numbers : (x : Aim) → coefficient_above greatest_number (count_of s) (aim_worth s x) ≡ None → IsSmall (constant_of (aim_worth s x)) → AreGoalNumbers vars (meaning_numbers size (aim_worth s x))
  aim_numbers x none small = record {
    sum = terms_sum vars (aim_worth s x) (subst (λ n. coefficient_above greatest_number n (aim_worth s x) ≡ None) (count_is vars s kinds) none);
    few = omega (arith, few, terms_few size (aim_worth s x));
    small = small;
  }

  -- a goal before the last has the terms of its aim, and these are of no real variable
  whole_goals : (x : Aim) (xs : List Aim) (goals : List Goal) → Reaches (aims_tried s (x ∷ xs)) → map goal_numbers goals ≡ map (meaning_numbers size) (map (aim_worth s) (x ∷ xs)) → RealsLast vars goals
  whole_goals x xs goals h same k lt =
      let aims = x ∷ xs in
      let worths = map (aim_worth s) aims in
      let long : length goals ≡ length aims = sym (length-map goals goal_numbers) ∙ ap (λ ys. length ys) same ∙ length-map worths (meaning_numbers size) ∙ length-map aims (aim_worth s) in
      let g = aim_worth s (get_or aims k x) in
      let numbers : goal_numbers (get_or goals k no_goal) ≡ meaning_numbers size g =
      sym (get_or-map goal_numbers goals k no_goal ([], pos 0) (omega arith))
      ∙ ap (λ ys. get_or ys k ([], pos 0)) same
      ∙ get_or-map (meaning_numbers size) worths k (aim_worth s x) ([], pos 0) (omega (arith, length-map aims (aim_worth s)))
      ∙ ap (meaning_numbers size) (get_or-map (aim_worth s) aims k x (aim_worth s x) (omega arith)) in
      let none = real_meaning vars s kinds g ∙ whole_aims s aims x h k (omega arith) in
      subst (All (λ t. IsDiscrete vars t.0)) (sym (ap (λ (y : List (ℕ × ℤ) × ℤ). y.0) numbers)) (discrete_terms vars (terms_of size g) (terms_below size g) none)

  -- the numbers of the goals are those of the aims, which are within their limits, and each aim asks for the best
  aim_goals : (x : Aim) (xs : List Aim) (goals : List Goal) → AimsFit s (x ∷ xs) → map goal_numbers goals ≡ map (meaning_numbers size) (map (aim_worth s) (x ∷ xs))
      → map (λ (g : Goal). g.sense) goals ≡ map aim_sense (x ∷ xs) → AreGoals vars goals
  aim_goals x xs goals h same senses =
      let aims = x ∷ xs in
      let long : length goals ≡ length aims = sym (length-map goals (λ (g : Goal). g.sense)) ∙ ap (λ ys. length ys) senses ∙ length-map aims aim_sense in
      let constants = (all_map IsSmall (λ y. constant_of (aim_worth s y)) aims).1 h.constants in
      record {
        some = omega arith;
        few = omega (arith, h.few);
        each = each_goal vars (map (aim_worth s) aims) goals
            ((all_map (λ g. AreGoalNumbers vars (meaning_numbers size g)) (aim_worth s) aims).0 (λ k d lt. aim_numbers (get_or aims k d) (h.coefficients k d lt) (constants k d lt))) same;
        alone = none_alone (length goals) goals
            ((all_map (λ s. s ≢ Satisfy) (λ (g : Goal). g.sense) goals).1
            (All-same (λ s. s ≢ Satisfy) (map (λ (g : Goal). g.sense) goals) (map aim_sense aims) senses
            ((all_map (λ s. s ≢ Satisfy) aim_sense aims).0 (λ k d lt. asks_best (get_or aims k d)))));
        reals = whole_goals x xs goals h.each same;
      }
    where
      asks_best : (y : Aim) → aim_sense y ≢ Satisfy
      asks_best (minimise p y) e = absurd (cc)
      asks_best (maximise p y) e = absurd (cc)

  pub goals_fit : (goal : tree.Goal) (goals : List Goal) → Reaches (goal_tried s goal) → map goal_numbers goals ≡ map (meaning_numbers size) (goal_worths s goal)
      → map (λ (g : Goal). g.sense) goals ≡ senses_of goal → AreGoals vars goals
  goals_fit (tree.satisfy p) goals h same senses = any_goal goals same senses
  goals_fit (tree.aims p x xs) goals h same senses = aim_goals x xs goals (aims_fit s (tree.aims p x xs) h) same senses
