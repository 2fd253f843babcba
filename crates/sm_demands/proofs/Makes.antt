-- What choices, tasks and items make, pushed behind nothing.
use Rattle.std.proofs.Common.{◌≡◌, ◌∙◌, ap, refl, ℕ, ℤ, pos, List, [], ◌∷◌, ◌++◌, map, option_map}
use Rattle.std.specs.List.{flat_map}
use Rattle.sm_kinds.specs.declared.tasks.Task.{Task}
use Rattle.sm_kinds.specs.declared.packing.Item.{Item}
use Rattle.sm_syntax.specs.declared.tree.Choice.{Choice as ChoiceNode}
use Rattle.sm_syntax.specs.declared.tree.Ctask.{Ctask as CtaskNode}
use Rattle.sm_syntax.specs.declared.tree.Dtask.{Dtask as DtaskNode}
use Rattle.sm_syntax.specs.declared.tree.Load.{Load as LoadNode}
use Rattle.sm_syntax.specs.Expressions.{expression_of, binding_of, literal_of}
use Rattle.sm_syntax.specs.Trees.{choice_of, ctask_of, dtask_of, load_of, listing_of}
use Rattle.sm_meaning.specs.Scopes.{Tuple, Scope}
use Rattle.sm_meaning.specs.Cases.{over_cases, listed, number_of, variable_at}
use Rattle.sm_meaning.specs.Formulas.{condition_of}
use Rattle.sm_flat.specs.declared.form.Form.TheVariants as form
use Rattle.sm_syntax.specs.declared.tree.Choosing.{Choosing}
use Rattle.sm_meaning.specs.Demands.{picks_of, ctasks_of, dtasks_of, items_of, form_of_choice}
use Rattle.sm_demands.proofs.Nodes.{made_of, pushed}

-- ---- what one node makes at one tuple

abbrev pub pick_at : Scope → ChoiceNode → Tuple → ℕ × List ℤ
pick_at s n c = (variable_at s (expression_of n.picks) c, listed (number_of s) (listing_of n.table) s.names c)

abbrev pub ctask_at : Scope → CtaskNode → Tuple → Task
ctask_at s n c = record { start = variable_at s (expression_of n.start) c; duration = number_of s (expression_of n.duration) c; demand = number_of s (expression_of n.demand) c; present = option_map (λ l. condition_of s l c) (option_map literal_of n.presence) }

abbrev pub dtask_at : Scope → DtaskNode → Tuple → Task
dtask_at s n c = record { start = variable_at s (expression_of n.start) c; duration = number_of s (expression_of n.duration) c; demand = pos 1; present = option_map (λ l. condition_of s l c) (option_map literal_of n.presence) }

abbrev pub item_at : Scope → LoadNode → Tuple → Item
item_at s n c = record { group = variable_at s (expression_of n.group) c; size = number_of s (expression_of n.size) c; costs = listed (number_of s) (listing_of n.costs) s.names c }

-- ---- what all make

module _ (s : Scope) (b : Tuple) where
  pub choices_made : (ns : List ChoiceNode) (old new : List (ℕ × List ℤ)) → old ≡ [] → new ≡ old ++ flat_map (λ n. flat_map (λ c. pick_at s n c ∷ []) (over_cases (option_map binding_of n.binders) s.names b)) ns
      → new ≡ flat_map (picks_of s b) (map choice_of ns)
  choices_made ns = pushed (pick_at s) (λ n. over_cases (option_map binding_of n.binders) s.names b) (picks_of s b) choice_of ns (λ n. refl)

  pub ctasks_made : (ns : List CtaskNode) (old new : List Task) → old ≡ [] → new ≡ old ++ flat_map (λ n. flat_map (λ c. ctask_at s n c ∷ []) (over_cases (option_map binding_of n.binders) s.names b)) ns
      → new ≡ flat_map (ctasks_of s b) (map ctask_of ns)
  ctasks_made ns = pushed (ctask_at s) (λ n. over_cases (option_map binding_of n.binders) s.names b) (ctasks_of s b) ctask_of ns (λ n. refl)

  -- the first, and more
  pub dtasks_made : (first : DtaskNode) (more : List DtaskNode) (old mid new : List Task) → old ≡ []
      → mid ≡ old ++ flat_map (λ c. dtask_at s first c ∷ []) (over_cases (option_map binding_of first.binders) s.names b)
      → new ≡ mid ++ flat_map (λ n. flat_map (λ c. dtask_at s n c ∷ []) (over_cases (option_map binding_of n.binders) s.names b)) more
      → new ≡ flat_map (dtasks_of s b) (map dtask_of (first ∷ more))
  dtasks_made first more old mid new empty h k =
      k
      ∙ ap (λ ts. ts ++ flat_map (λ n. flat_map (λ c. dtask_at s n c ∷ []) (over_cases (option_map binding_of n.binders) s.names b)) more)
      (h ∙ ap (λ ts. ts ++ flat_map (λ c. dtask_at s first c ∷ []) (over_cases (option_map binding_of first.binders) s.names b)) empty)
      ∙ made_of (dtask_at s) (λ n. over_cases (option_map binding_of n.binders) s.names b) (dtasks_of s b) dtask_of (first ∷ more) (λ n. refl)

  pub items_made : (ns : List LoadNode) (old new : List Item) → old ≡ [] → new ≡ old ++ flat_map (λ n. flat_map (λ c. item_at s n c ∷ []) (over_cases (option_map binding_of n.binders) s.names b)) ns
      → new ≡ flat_map (items_of s b) (map load_of ns)
  items_made ns = pushed (item_at s) (λ n. over_cases (option_map binding_of n.binders) s.names b) (items_of s b) load_of ns (λ n. refl)

-- ---- kinds of equal parts

pub chosen_same : (w : Choosing) (z y : ℕ) (xs ys : List (ℕ × List ℤ)) → z ≡ y → xs ≡ ys → form_of_choice w (record { z = y; picks = ys }) ≡ form_of_choice w (record { z = z; picks = xs })
chosen_same w z y xs ys p q = rw (p, q) refl

pub cumulative_same : (z y : ℤ) (xs ys : List Task) → z ≡ y → xs ≡ ys → form.Cumulative y ys ≡ form.Cumulative z xs
cumulative_same z y xs ys p q = rw (p, q) refl

pub packing_same : (z y : ℕ) (cs ds os ps : List ℤ) (xs ys : List Item) → z ≡ y → cs ≡ ds → os ≡ ps → xs ≡ ys
    → form.Packing (record { z = y; capacities = ds; opening = ps; items = ys }) ≡ form.Packing (record { z = z; capacities = cs; opening = os; items = xs })
packing_same z y cs ds os ps xs ys p q r t = rw (p, q, r, t) refl
