-- Items, one after another: what is left to try comes to what all comes to, and what is in the making is of the front.
use Rattle.std.proofs.Common.{◌≡◌, ◌∙◌, sym, refl, subst, ℕ, List, [], ◌∷◌}
use Rattle.sm_syntax.specs.Trees.{Item}
use Rattle.sm_meaning.specs.declared.refusal.ExpandRefusal.{ExpandRefusal}
use Rattle.sm_meaning.specs.Trials.{reached, IsStopped}
use Rattle.sm_meaning.specs.Expansions.{Expansion}
use Rattle.sm_meaning.specs.Models.{with_item, with_items, item_tried, items_tried}
use Rattle.sm_meaning.proofs.Steps.{stops, goes_on, stopped_same}
use Rattle.sm_declarations.specs.declared.making.Making.{Making}
use Rattle.sm_declarations.specs.Making.{IsMakingOf, IsOfSome}

pub record ItemsLeft (all : List Item) (e : Expansion) (start : ℕ) (rest : List Item) (now : ℕ) (m : Making) : Type 0 where
  pub front : Expansion
  pub making : IsMakingOf front m
  pub tried : items_tried rest front now ≡ items_tried all e start
  pub whole : with_items rest front ≡ with_items all e

pub items_first : (all : List Item) (e : Expansion) (start : ℕ) (m : Making) → IsMakingOf e m → ItemsLeft all e start all start m
items_first all e start m h = record { front = e; making = h; tried = refl; whole = refl }

module _ (all : List Item) (e : Expansion) (start : ℕ) (x : Item) (rest : List Item) (now : ℕ) (m : Making) (h : ItemsLeft all e start (x ∷ rest) now m) where
  pub items_more : (after : ℕ) (new : Making) → item_tried x h.front now ≡ reached after → IsMakingOf (with_item x h.front) new → ItemsLeft all e start rest after new
  items_more after new goes making = record {
    front = with_item x h.front;
    making = making;
    tried = sym (goes_on (item_tried x h.front) (items_tried rest (with_item x h.front)) now after goes) ∙ h.tried;
    whole = h.whole;
  }

  pub items_stop : (r : ExpandRefusal) → IsStopped r (item_tried x h.front now) → IsStopped r (items_tried all e start)
  items_stop r stop = stopped_same r _ _ h.tried (stops r (item_tried x h.front) (items_tried rest (with_item x h.front)) now stop)

pub items_end : (all : List Item) (e : Expansion) (start now : ℕ) (m : Making) → ItemsLeft all e start [] now m → (items_tried all e start ≡ reached now) × IsMakingOf (with_items all e) m
items_end all e start now m h = (sym h.tried, subst (λ (f : Expansion). IsMakingOf f m) h.whole h.making)
