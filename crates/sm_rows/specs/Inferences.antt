-- What each rule of inference may conclude of a store: that no assignment of it satisfies the constraint, or that a literal is
-- true of all that do.
use Rattle.std.specs.Prelude.{◌≡◌, ℕ, ◌<◌, ◌⊎◌, List, [], ◌∷◌, length, ℤ, pos, All, Any, true, false, Some, slice_get, MatchOption}
use Rattle.sm_kinds.specs.declared.literal.Literal.{Literal}
use Rattle.sm_kinds.specs.declared.logic.Clause.{Clause}
use Rattle.sm_kinds.specs.Literals.{passes, complement}
use Rattle.sm_kinds.specs.Vars.{LiesIn}
use Rattle.sm_flat.specs.declared.form.Constraint.{Constraint}
use Rattle.sm_flat.specs.declared.form.Form.{Form}
use Rattle.sm_flat.specs.declared.form.Form.TheVariants as form
use Rattle.sm_flat.specs.Models.{FlatModel}
use Rattle.sm_store.specs.Stores.{Extent, extent_at, truth_of, Tightens, TightensEach}
use Rattle.sm_step.specs.declared.rule.Rule.{Rule}
use Rattle.sm_step.specs.declared.rule.Rule.TheVariants as rule
use Rattle.sm_step.specs.declared.line.Line.{Line}
use Rattle.sm_step.specs.declared.line.Line.TheVariants as line
use Rattle.sm_step.specs.declared.line.Outcome.{Outcome}
use Rattle.sm_step.specs.declared.line.Outcome.TheVariants.{Close, Literals}
use Rattle.sm_rows.specs.Halves.{Bounded, half_of, FallsShort, IsTooLittle}

-- ---- what a literal cuts

-- each value of its variable's domain of which the literal is false has the property
abbrev pub CutsOnly : (ℤ → Type 0) → List Extent → Literal → Type 0
CutsOnly P store l = (x : ℤ) → LiesIn (extent_at store l.var).kind (extent_at store l.var).values x (pos 1) → passes l x ≡ false → P x

abbrev pub IsTrueIn : List Extent → Literal → Type 0
IsTrueIn store l = truth_of store l ≡ Some true

abbrev pub IsFalseIn : List Extent → Literal → Type 0
IsFalseIn store l = truth_of store l ≡ Some false

-- ---- sum: bounds of a half of a row

-- the literal cuts only values that are too little for the half, by a term of its variable
abbrev pub SumCuts : List Extent → Literal → Bounded → Type 0
SumCuts store l h = Any (λ t. (t.0 ≡ l.var) × CutsOnly (IsTooLittle store h t) store l) h.terms

abbrev pub SumCloses : List Extent → ℕ → Form → Type 0
SumCloses store half (form.Linear row) = MatchOption (half_of row half) ⊥ (FallsShort store)
SumCloses store half _ = ⊥

abbrev pub SumInfers : List Extent → ℕ → Literal → Form → Type 0
SumInfers store half l (form.Linear row) = MatchOption (half_of row half) ⊥ (SumCuts store l)
SumInfers store half l _ = ⊥

-- ---- clause: the last literal that may be true

-- all literals are false
abbrev pub AllFalse : List Extent → List Literal → Type 0
AllFalse store ls = All (IsFalseIn store) ls

-- the literal is one of these, and each other one is false
pub record IsLastOf (store : List Extent) (l : Literal) (ls : List Literal) : Type 0 where
  pub stands : Any (λ o. o ≡ l) ls
  pub others : All (λ o. (o ≡ l) ⊎ IsFalseIn store o) ls

abbrev pub ClauseCloses : List Extent → ℕ → Form → Type 0
ClauseCloses store c (form.Logic clauses) = MatchOption (slice_get clauses c) ⊥ (λ (k : Clause). AllFalse store k.literals)
ClauseCloses store c _ = ⊥

abbrev pub ClauseInfers : List Extent → ℕ → Literal → Form → Type 0
ClauseInfers store c l (form.Logic clauses) = MatchOption (slice_get clauses c) ⊥ (λ (k : Clause). IsLastOf store l k.literals)
ClauseInfers store c l _ = ⊥

-- ---- when: a row under conditions

abbrev pub AllTrue : List Extent → List Literal → Type 0
AllTrue store ls = All (IsTrueIn store) ls

-- the literal is the complement of one of these, and each other one is true
pub record IsLastCondition (store : List Extent) (l : Literal) (ls : List Literal) : Type 0 where
  pub stands : Any (λ o. complement o ≡ l) ls
  pub others : All (λ o. (complement o ≡ l) ⊎ IsTrueIn store o) ls

-- the row is due and narrows; or it can't hold, and only one condition may still be false
abbrev pub WhenCuts : List Extent → List Literal → Literal → Bounded → Type 0
WhenCuts store ls l h = (AllTrue store ls × SumCuts store l h) ⊎ (FallsShort store h × IsLastCondition store l ls)

abbrev pub WhenCloses : List Extent → ℕ → Form → Type 0
WhenCloses store half (form.When ls row) = MatchOption (half_of row half) ⊥ (λ h. AllTrue store ls × FallsShort store h)
WhenCloses store half _ = ⊥

abbrev pub WhenInfers : List Extent → ℕ → Literal → Form → Type 0
WhenInfers store half l (form.When ls row) = MatchOption (half_of row half) ⊥ (WhenCuts store ls l)
WhenInfers store half l _ = ⊥

-- ---- all rules; those of other kinds aren't there yet

-- the constraint that a rule names
abbrev pub constraint_of : Rule → ℕ
constraint_of (rule.Sum k half) = k
constraint_of (rule.Clause k clause) = k
constraint_of (rule.When k half) = k
constraint_of (rule.Hall k w) = k
constraint_of (rule.Elem k) = k
constraint_of (rule.Isum k) = k
constraint_of (rule.Time k moment task) = k
constraint_of (rule.Energy k w) = k
constraint_of (rule.Load k w) = k
constraint_of (rule.After k task w v) = k
constraint_of (rule.Before k task w v) = k
constraint_of (rule.Cap k group) = k
constraint_of (rule.Pay k) = k
constraint_of (rule.Chain k place) = k

-- by the rule no assignment of the store satisfies the constraint
abbrev pub Closes : List Extent → Rule → Form → Type 0
Closes store (rule.Sum k half) f = SumCloses store half f
Closes store (rule.Clause k clause) f = ClauseCloses store clause f
Closes store (rule.When k half) f = WhenCloses store half f
Closes store _ f = ⊥

-- by the rule the literal is true of each assignment of the store that satisfies the constraint
abbrev pub Infers : List Extent → Rule → Literal → Form → Type 0
Infers store (rule.Sum k half) l f = SumInfers store half l f
Infers store (rule.Clause k clause) l f = ClauseInfers store clause l f
Infers store (rule.When k half) l f = WhenInfers store half l f
Infers store _ l f = ⊥

-- ---- results

-- what a line may conclude: that the node has no solution, or one literal or more, each of which is so of the store before the
-- line and changes the store in its turn
abbrev pub Concludes : (Form → Type 0) → (Literal → Form → Type 0) → List Extent → Form → Outcome → Type 0
Concludes closes infers store f Close = closes f
Concludes closes infers store f (Literals ls) = (0 < length ls) × All (λ l. infers l f) ls × TightensEach store ls

-- an `infer` line is lawful at a node of this store
abbrev pub IsInference : FlatModel → List Extent → Rule → Outcome → Type 0
IsInference m store r outcome = MatchOption (slice_get m.constraints (constraint_of r)) ⊥ (λ (c : Constraint). Concludes (Closes store r) (Infers store r) store c.form outcome)

-- the line is an inference that is lawful at a node of this store
abbrev pub IsLawfulInference : FlatModel → List Extent → Line → Type 0
IsLawfulInference m store (line.Infer r outcome) = IsInference m store r outcome
IsLawfulInference m store _ = ⊥

-- ---- lemmas

-- what a lemma of this clause may conclude: all literals are false; or one literal, the last that may be true
abbrev pub LemmaConcludes : List Extent → List Literal → Outcome → Type 0
LemmaConcludes store ls Close = AllFalse store ls
LemmaConcludes store ls (Literals []) = ⊥
LemmaConcludes store ls (Literals (l ∷ [])) = IsLastOf store l ls × Tightens store l
LemmaConcludes store ls (Literals (l ∷ k ∷ rest)) = ⊥

-- the line uses a lemma of this clause, and is lawful at a node of this store
abbrev pub IsLawfulLemma : List Extent → List Literal → Line → Type 0
IsLawfulLemma store ls (line.Lemma lemma outcome) = LemmaConcludes store ls outcome
IsLawfulLemma store ls _ = ⊥
