use Rattle.std.proofs.Common.{◌≡◌, ◌∙◌, ap, sym, refl, ◌∷◌, [], map, Some}
use Rattle.std.proofs.lemmas.Result.{err_from_is_err_and}
use Rattle.sm_syntax.specs.Grammar as g
use Rattle.sm_syntax.proofs.Readings.{after, behind, fault_at, opened_group, begin, one_more}
use Rattle.sm_syntax.proofs.Predictions as predict
use Rattle.sm_syntax.proofs.Readings.{map_more}
use Rattle.sm_syntax.specs.TreeSteps.{item_step, item_then}
use Rattle.sm_syntax.specs.Trees.{item_of}
use Rattle.std.proofs.Common.{subst}
use Rattle.sm_syntax.specs.declared.terminal.Terminal.{Terminal}
use Rattle.sm_syntax.specs.Terminals.{code_of}
use Rattle.sm_syntax.specs.Grammars.{predict as chosen_side}
use Rattle.sm_syntax.proofs.read_model.ItemsItemPart.read.Goals as goal

pub items-init : goal.items-init
items-init c = begin (item_step g.items (g.item ∷ g.items ∷ []) item_then) (map item_of c.new-items.result) (ap (map item_of) c.new-items.ensures) c.args.reader.now (g.items ∷ [])

pub returns-in_err-item : goal.returns-in_err-item
returns-in_err-item c =
    let more = opened_group c.items.reader 24 (g.item ∷ g.items ∷ []) refl (subst (λ (t : Terminal). chosen_side g.grammar 24 (code_of t) ≡ Some (g.item ∷ g.items ∷ [])) c.terminal.ensures (predict.items_some c.terminal.result (sym c.begins_item.ensures ∙ c.items-test.true))) in
    let p = err_from_is_err_and c.from_residual.result c.from_residual.ensures.1 in
    rw (p.1, p.2) (fault_at c.read_item.new.reader c.in_err-item.field-0.0 (g.item ∷ []) (g.items ∷ []) (after c.items.invariant more) c.in_err-item.ensures.read)

pub items-preserved : goal.items-preserved
items-preserved c =
    let more = opened_group c.items.reader 24 (g.item ∷ g.items ∷ []) refl (subst (λ (t : Terminal). chosen_side g.grammar 24 (code_of t) ≡ Some (g.item ∷ g.items ∷ [])) c.terminal.ensures (predict.items_some c.terminal.result (sym c.begins_item.ensures ∙ c.items-test.true))) in
    one_more (item_step g.items (g.item ∷ g.items ∷ []) item_then) (map item_of c.items.items) (map item_of c.push.new.self) (item_of c.in_ok-item.item) (ap (map item_of) c.in_ok-push.ensures.ok ∙ map_more item_of c.items.items c.in_ok-item.item)
    c.items.invariant (after more (behind (g.items ∷ []) c.in_ok-item.ensures.read))

pub items-smaller : goal.items-smaller
items-smaller c = c.in_ok-item.ensures.shorter

pub returns : goal.returns
returns c =
    let ends = opened_group c.items.reader 24 [] refl (subst (λ (t : Terminal). chosen_side g.grammar 24 (code_of t) ≡ Some ([])) c.terminal.ensures (predict.items_none c.terminal.result (sym c.begins_item.ensures ∙ c.items-test.false))) in
    after c.items.invariant ends
