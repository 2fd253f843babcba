-- The flat model of a text with its tables, and what an expansion answers.
use Rattle.std.specs.Prelude.{◌≡◌, ℕ, List, map, length, All, Some, None, Result, Ok, Err}
use Rattle.sm_flat.specs.declared.goal.Goal.{Goal}
use Rattle.sm_flat.specs.Models.{FlatModel}
use Rattle.sm_data.specs.Documents.{Entry}
use Rattle.sm_syntax.specs.Trees.{Tree}
use Rattle.sm_meaning.specs.declared.refusal.ExpandRefusal.{ExpandRefusal}
use Rattle.sm_meaning.specs.declared.refusal.ExpandRefusal.TheVariants as refusal
use Rattle.sm_meaning.specs.Models.{expansion_of, worths_of, listing_of, refusal_in}
use Rattle.sm_flattening.specs.Flattening.{IsFlattened, goal_numbers, meaning_numbers}
use Rattle.sm_flattening.specs.Regularity.{IsAffine}
use Rattle.sm_meaning.specs.Trials.{Trial, reached, IsStopped}
use Rattle.sm_meaning.specs.Expansions.{scope_of}
use Rattle.sm_declarations.specs.declared.making.Making.{Making}
use Rattle.sm_declarations.specs.Making.{IsMakingOf}
use Rattle.sm_syntax.specs.Trees as tree
use Rattle.sm_goals.specs.Goals.{AreGoalsOf}

-- the variables and constraints are those of the text, and each goal has the numbers of what the text's is worth
pub record IsFlatOf (t : Tree) (tables : List Entry) (m : FlatModel) : Type 0 where
  pub parts : IsFlattened (expansion_of t tables) m.vars m.constraints
  pub goals : map goal_numbers m.goals ≡ map (meaning_numbers (length m.vars)) (worths_of t tables)
  pub senses : map (λ (g : Goal). g.sense) m.goals ≡ (listing_of t tables).senses
  pub affine : All (IsAffine (length m.vars)) (worths_of t tables)

-- the flat model where nothing is refused, and else the first refusal; want of memory may come anywhere
abbrev pub ComesTo : Tree → List Entry → Result FlatModel ExpandRefusal → Type 0
ComesTo t tables (Ok m) = (refusal_in t tables ≡ None) × IsFlatOf t tables m
ComesTo t tables (Err refusal.OutOfMemory) = Unit {0}
ComesTo t tables (Err (refusal.Meaning line column what)) = refusal_in t tables ≡ Some (refusal.Meaning line column what)
ComesTo t tables (Err (refusal.Limit what found bound)) = refusal_in t tables ≡ Some (refusal.Limit what found bound)

-- ---- on the way

-- what is made of the whole text, with its goals
pub record IsMadeOf (t : Tree) (tables : List Entry) (m : Making) (goals : List Goal) : Type 0 where
  pub making : IsMakingOf (expansion_of t tables) m
  pub numbers : map goal_numbers goals ≡ map (meaning_numbers (length m.vars.items)) (worths_of t tables)
  pub senses : map (λ (g : Goal). g.sense) goals ≡ (listing_of t tables).senses
  pub affine : All (IsAffine (length m.vars.items)) (worths_of t tables)

-- all is gone through, or it is stopped by this refusal
abbrev pub IsGone : {X : Type 0} → Trial → (X → Type 0) → Result X ExpandRefusal → Type 0
IsGone part P (Ok x) = ((after : ℕ) × (part 0 ≡ reached after)) × P x
IsGone part P (Err e) = IsStopped e (part 0)
