use Rattle.sm_meaning.specs.Expansions.{scope_of}
use Rattle.sm_meaning.specs.Goals.{goal_tried}
use Rattle.sm_meaning.specs.Models.{tree_tried}
use Rattle.sm_flattening.proofs.Constraints.{demand_holds}
use Rattle.sm_flattening.proofs.Models.{solves_meets, solves_means, unsolved_means}
use Rattle.sm_flattening.proofs.Flat.{flat_model, flat_text}
use Rattle.sm_flattening.proofs.Reached.{reaches}
use Rattle.sm_flattening.proofs.model_laws.Goals as goal

pub returns-clause-holds : goal.returns-clause-holds
returns-clause-holds c = demand_holds

pub returns-clause-meets : goal.returns-clause-meets
returns-clause-meets c = solves_meets

pub returns-clause-means : goal.returns-clause-means
returns-clause-means c = solves_means

pub returns-clause-unsolved : goal.returns-clause-unsolved
returns-clause-unsolved c = unsolved_means

pub returns-clause-flat : goal.returns-clause-flat
returns-clause-flat c = λ e g m count after parts h. flat_model e g m (reaches (goal_tried (scope_of e) g) count after h) parts

pub returns-clause-flat_text : goal.returns-clause-flat_text
returns-clause-flat_text c = λ t tables m after parts h. flat_text t tables m (reaches (tree_tried t tables) 0 after h) parts
