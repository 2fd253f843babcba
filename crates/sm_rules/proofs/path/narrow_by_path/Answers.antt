use Rattle.std.proofs.Common.{◌≡◌, ℕ, suc, ◌-◌, ◌<◌, length, take, get_or, ap, sym, ◌∙◌, arith}
use Rattle.sm_kinds.specs.declared.literal.Literal.{Literal}
use Rattle.std.specs.Prelude.{List}
use Rattle.sm_store.specs.Stores.{Extent, narrow_all}
use Rattle.sm_rules.specs.Nodes.{KeptNode}
use Rattle.sm_rules.specs.Places.{at_place}
use Rattle.sm_rules.specs.KeptNodes.{narrow_along}
use Rattle.sm_rules.proofs.Places.{at_read}
use Rattle.sm_rules.proofs.KeptNodes.{width_all}
use Rattle.sm_rules.proofs.Paths.{step_down}
use Rattle.sm_rules.proofs.path.narrow_by_path.Goals as goal

-- the literals of the place's node take the store one step down the path
pub loop-rest-preserved : goal.loop-rest-preserved
loop-rest-preserved c =
    let ns = c.args.nodes.now in
    let path = c.args.path.now in
    let i : ℕ = c.loop-rest.rest - 1 in
    let store = c.loop-rest.store in
    let lt : i < length path = let w = c.loop-rest.invariant.within in omega arith in
    let inside : get_or path i 0 < length ns = c.requires.places i 0 lt in
    let read : at_place ns (get_or path i 0) ≡ c.index-nodes-path.result = at_read ns (get_or path i 0) c.index-nodes-path.result inside c.index-nodes-path.is in
    let literals : c.literals.result.now ≡ (at_place ns (get_or path i 0)).store = c.literals.ensures ∙ ap (λ (n : KeptNode). n.store) (sym read) in
    let made : c.narrow_by.new.store ≡ narrow_all store (at_place ns (get_or path i 0)).store = c.narrow_by.ensures ∙ ap (λ (ls : List Literal). narrow_all store ls) literals in
    let one : suc i ≡ c.loop-rest.rest = omega arith in
    let down = step_down store ns path i lt in
    let whole : narrow_along store ns (take (suc i) path) ≡ narrow_along c.args.store.now ns path = rw one c.loop-rest.invariant.rest in
    record {
      within = omega arith;
      wide = ap (λ (s : List Extent). length s) made ∙ width_all store (at_place ns (get_or path i 0)).store ∙ c.loop-rest.invariant.wide;
      rest = ap (λ (s : List Extent). narrow_along s ns (take i path)) made ∙ sym down ∙ whole;
    }
