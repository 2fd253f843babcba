use Rattle.std.proofs.Common.{◌≡◌, ◌∙◌, ap, map, sym, List, length}
use Rattle.sm_data.specs.Documents.{Entry}
use Rattle.sm_syntax.specs.Trees.{tree}
use Rattle.sm_flattening.proofs.Models.{solves_means, unsolved_means}
use Rattle.sm_flattening.proofs.Goals.{goal_worths}
use Rattle.sm_expand.proofs.Listings.{lists_variables, lists_kinds, lists_tags}
use Rattle.sm_expand.proofs.expansion_laws.Goals as goal

pub returns-clause-means : goal.returns-clause-means
returns-clause-means c = λ t tables m h. solves_means t tables m h.parts

pub returns-clause-unsolved : goal.returns-clause-unsolved
returns-clause-unsolved c = λ t tables m h. unsolved_means t tables m h.parts

pub returns-clause-worths : goal.returns-clause-worths
returns-clause-worths c = λ t tables m h a. goal_worths (length m.vars) _ m.goals a h.affine h.goals

pub returns-clause-variables : goal.returns-clause-variables
returns-clause-variables c = lists_variables

pub returns-clause-kinds : goal.returns-clause-kinds
returns-clause-kinds c = lists_kinds

pub returns-clause-tags : goal.returns-clause-tags
returns-clause-tags c = lists_tags
