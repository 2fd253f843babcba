-- Nodes that have no child, or one.
use Rattle.std.proofs.Common.{◌≡◌, ℕ, ◌+◌, ◌<◌, ◌≤◌, List, length, get_or, arith, ap, sym, ◌∙◌, inl, inr}
use Rattle.std.specs.Prelude.{All}
use Rattle.std.proofs.lemmas.List.{get_or_default}
use Rattle.std.proofs.lemmas.Bool.{cases_lt, cases_eq}
use Rattle.sm_kinds.specs.declared.literal.Literal.{Literal}
use Rattle.sm_kinds.specs.Literals.{complement}
use Rattle.sm_rules.specs.declared.node.Status.TheVariants.{Open, Half, Split}
use Rattle.sm_rules.specs.Nodes.{NodeOf, NodeView, no_node, LawfulChild}
use Rattle.sm_rules.specs.Halves.{HasOneChild, IsLastHalf}
use Rattle.sm_rules.specs.Trees.{node_at}
use Rattle.sm_rules.specs.Places.{AreRising, at_place}
use Rattle.sm_rules.proofs.Places.{node_at_place}

-- a number that no node has opens no child
pub no_child_of_none : (ns : List NodeView) (k : ℕ) (l : Literal) → node_at ns k ≡ no_node → LawfulChild (node_at ns k).store (node_at ns k).status l → ⊥
no_child_of_none ns k l e h = rw e at h

module _ {E : Type 0} where
  pub not_open_none : (ns : List (NodeOf E)) (k : ℕ) → node_at ns k ≡ no_node → (node_at ns k).status ≡ Open → ⊥
  not_open_none ns k e h = let s : Split _ ≡ Open = rw e at h in cc

  -- of nodes that rise the one at a place is the last with one child, where none after it has one child
  pub last_half_is : (ns : List (NodeOf E)) (i number : ℕ) (l first : Literal) → AreRising ns → i < length ns → number ≡ (at_place ns i).number → (at_place ns i).status ≡ Half first → l ≡ complement first → ((k : ℕ) → i + 1 ≤ k → k < length ns → HasOneChild (at_place ns k).status → ⊥) → IsLastHalf ns number l
  last_half_is ns i number l first rising lt e half other none =
      let at = node_at_place ns i number rising (record { within = lt; here = sym e }) in
      record {
        first = first;
        status = ap (λ (n : NodeOf E). n.status) at ∙ half;
        other = other;
        last = λ k d within one above.
            let same : get_or ns k d ≡ at_place ns k = get_or_default ns k d no_node within in
            let one' : HasOneChild (at_place ns k).status = rw same at one in
            let above' : number < (at_place ns k).number = rw same at above in
            elim (cases_lt i k) [
              | inl after ↦ none k (omega arith) within one'
              | inr before ↦ elim (cases_eq i k) [
                | inl here ↦ absurd (let x : (at_place ns i).number ≡ (at_place ns k).number = ap (λ (j : ℕ). (at_place ns j).number) here in omega arith)
                | inr apart ↦ absurd (let x : (at_place ns k).number < (at_place ns i).number = rising k i no_node (omega arith) lt in omega arith)
              ]
            ];
      }

  pub no_half_left : (ns : List (NodeOf E)) (i : ℕ) → i ≡ 0 → ((k : ℕ) → i ≤ k → k < length ns → HasOneChild (at_place ns k).status → ⊥) → All (λ (n : NodeOf E). HasOneChild n.status → ⊥) ns
  no_half_left ns i e none k d within one =
      let same : get_or ns k d ≡ at_place ns k = get_or_default ns k d no_node within in
      none k (omega arith) within (rw same at one)
