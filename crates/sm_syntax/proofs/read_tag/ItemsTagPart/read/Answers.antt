use Rattle.std.proofs.Common.{◌≡◌, ◌∙◌, ap, sym, refl, ◌∷◌, [], map, Some}
use Rattle.std.proofs.lemmas.Result.{err_from_is_err_and}
use Rattle.sm_syntax.specs.Grammar as g
use Rattle.sm_syntax.proofs.Readings.{after, behind, fault_at, opened_group, begin, one_more}
use Rattle.sm_syntax.proofs.Predictions as predict
use Rattle.sm_syntax.proofs.Readings.{map_more}
use Rattle.sm_syntax.specs.TreeSteps.{item_step, tag_then}
use Rattle.sm_syntax.specs.Trees.{tag_of}
use Rattle.std.proofs.Common.{subst}
use Rattle.sm_syntax.specs.declared.terminal.Terminal.{Terminal}
use Rattle.sm_syntax.specs.Terminals.{code_of}
use Rattle.sm_syntax.specs.Grammars.{predict as chosen_side}
use Rattle.sm_syntax.proofs.read_tag.ItemsTagPart.read.Goals as goal

pub tags-init : goal.tags-init
tags-init c = begin (item_step g.tags (g.tag ∷ g.tags ∷ []) tag_then) (map tag_of c.new-tags.result) (ap (map tag_of) c.new-tags.ensures) c.args.reader.now (g.tags ∷ [])

pub returns-in_err-tag : goal.returns-in_err-tag
returns-in_err-tag c =
    let more = opened_group c.tags.reader 28 (g.tag ∷ g.tags ∷ []) refl (subst (λ (t : Terminal). chosen_side g.grammar 28 (code_of t) ≡ Some (g.tag ∷ g.tags ∷ [])) c.terminal.ensures (predict.tags_some c.terminal.result (sym c.begins_tag.ensures ∙ c.tags-test.true))) in
    let p = err_from_is_err_and c.from_residual.result c.from_residual.ensures.1 in
    rw (p.1, p.2) (fault_at c.read_tag.new.reader c.in_err-tag.field-0.0 (g.tag ∷ []) (g.tags ∷ []) (after c.tags.invariant more) c.in_err-tag.ensures.read)

pub tags-preserved : goal.tags-preserved
tags-preserved c =
    let more = opened_group c.tags.reader 28 (g.tag ∷ g.tags ∷ []) refl (subst (λ (t : Terminal). chosen_side g.grammar 28 (code_of t) ≡ Some (g.tag ∷ g.tags ∷ [])) c.terminal.ensures (predict.tags_some c.terminal.result (sym c.begins_tag.ensures ∙ c.tags-test.true))) in
    one_more (item_step g.tags (g.tag ∷ g.tags ∷ []) tag_then) (map tag_of c.tags.tags) (map tag_of c.push.new.self) (tag_of c.in_ok-tag.tag) (ap (map tag_of) c.in_ok-push.ensures.ok ∙ map_more tag_of c.tags.tags c.in_ok-tag.tag)
    c.tags.invariant (after more (behind (g.tags ∷ []) c.in_ok-tag.ensures.read))

pub tags-smaller : goal.tags-smaller
tags-smaller c = c.in_ok-tag.ensures.shorter

pub returns : goal.returns
returns c =
    let ends = opened_group c.tags.reader 28 [] refl (subst (λ (t : Terminal). chosen_side g.grammar 28 (code_of t) ≡ Some ([])) c.terminal.ensures (predict.tags_none c.terminal.result (sym c.begins_tag.ensures ∙ c.tags-test.false))) in
    after c.tags.invariant ends
