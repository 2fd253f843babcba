-- What is tried, one thing after another, while the tuples that are visited are counted.
use Rattle.std.specs.Prelude.{◌≡◌, ℕ, ◌+◌, List, [], ◌∷◌, nat_lt, Option, Some, None, Result, Ok, Err, if◌then◌else◌}
use Rattle.sm_data.specs.declared.refusal.Counted.TheVariants as counted
use Rattle.sm_meaning.specs.declared.refusal.ExpandRefusal.{ExpandRefusal}
use Rattle.sm_meaning.specs.declared.refusal.ExpandRefusal.TheVariants as refusal
use Rattle.sm_meaning.specs.Refusals.{over}

-- a part of the text is refused, or it is gone through, with so many tuples visited by then
pub data Outcome : Type 0 where
  stopped : ExpandRefusal → Outcome
  reached : ℕ → Outcome

-- from the count of tuples before a part to its outcome
abbrev pub Trial : Type 0
Trial = ℕ → Outcome

abbrev pub resumed : Outcome → Trial → Outcome
resumed (stopped r) next = stopped r
resumed (reached count) next = next count

-- one part, and then another
infixr 5 ◌▸◌
abbrev pub ◌▸◌ : Trial → Trial → Trial
(part ▸ next) count = resumed (part count) next

abbrev pub nothing_tried : Trial
nothing_tried count = reached count

-- what is refused here, if something is
abbrev pub tried : Option ExpandRefusal → Trial
tried None count = reached count
tried (Some r) count = stopped r

-- tuples that are visited in a whole expansion
abbrev pub most_tuples : ℕ
most_tuples = 67108864

-- one more tuple is visited
abbrev pub visit : Trial
visit count = if nat_lt count most_tuples then reached (count + 1) else stopped (over counted.Tuples most_tuples (most_tuples + 1))

-- each in its turn
abbrev pub each_tried : {X : Type 0} → (X → Trial) → List X → Trial
each_tried f [] = nothing_tried
each_tried f (x ∷ xs) = f x ▸ each_tried f xs

-- the refusal, if there is one
abbrev pub refusal_of : Outcome → Option ExpandRefusal
refusal_of (stopped r) = Some r
refusal_of (reached count) = None

-- this is the refusal; want of memory may come anywhere
abbrev pub IsStopped : ExpandRefusal → Outcome → Type 0
IsStopped refusal.OutOfMemory o = Unit {0}
IsStopped (refusal.Meaning line column what) o = o ≡ stopped (refusal.Meaning line column what)
IsStopped (refusal.Limit what found bound) o = o ≡ stopped (refusal.Limit what found bound)

-- What a call answers that goes through a part of the text, with the count of tuples before it and after it: what it makes,
-- where nothing is refused, and else the first refusal.
abbrev pub GoesThrough : {X : Type 0} → Trial → ℕ → ℕ → (X → Type 0) → Result X ExpandRefusal → Type 0
GoesThrough part before after P (Ok x) = (part before ≡ reached after) × P x
GoesThrough part before after P (Err e) = IsStopped e (part before)
