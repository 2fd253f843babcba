use Rattle.std.proofs.Common.{rules, tests, ◌∙◌}
use Rattle.std.proofs.lemmas.Iterator.{YieldsList-from_slice}
use Rattle.std.proofs.lemmas.Iterator.Search.{any_from_yields_List}
use Rattle.clap.proofs.WalkLemmas.{list_any-map}
use Rattle.sm_arguments.specs.Request.{is_empty}
use Rattle.sm_arguments.proofs.reading.has_empty.Goals as goal

pub returns : goal.returns
returns c =
    any_from_yields_List (λ w. is_empty w.now) _ _ c.any.result c.any.ensures.ran (YieldsList-from_slice c.args.words.now c.iter.ensures.rest) (λ x b q k. search (rules, tests))
    ∙ list_any-map is_empty (λ w. w.now) c.args.words.now
