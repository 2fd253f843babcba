use Rattle.std.proofs.Common.{◌≡◌}
use Rattle.sm_syntax.specs.Trees.{tree_of}
use Rattle.sm_syntax.specs.TreeSteps.{tree_then}
use Rattle.sm_syntax.specs.declared.ParseRefusal.TheVariants as refusal
use Rattle.sm_syntax.proofs.WholeTexts.{read_tree, tree_model, read_shallow, refused_syntax, refused_nesting, refused_below}
use Rattle.sm_syntax.proofs.parse.Goals as goal

pub returns-in-Ok-clause-found : goal.returns-in-Ok-clause-found
returns-in-Ok-clause-found c = read_tree c.new-reader.result c.read_text.new.reader c.args.text.now (tree_of c.in-Ok.tree) c.new-reader.ensures.all c.in-Ok.ensures.0 c.in-Ok.ensures.1 c.in-Ok.ensures.2

pub returns-in-Ok-clause-model : goal.returns-in-Ok-clause-model
returns-in-Ok-clause-model c = tree_model c.args.text.now (tree_of c.in-Ok.tree)
    (read_tree c.new-reader.result c.read_text.new.reader c.args.text.now (tree_of c.in-Ok.tree) c.new-reader.ensures.all c.in-Ok.ensures.0 c.in-Ok.ensures.1 c.in-Ok.ensures.2)

pub returns-in-Ok-clause-shallow : goal.returns-in-Ok-clause-shallow
returns-in-Ok-clause-shallow c = read_shallow c.new-reader.result c.read_text.new.reader c.args.text.now (tree_then (tree_of c.in-Ok.tree)) c.new-reader.ensures.all c.new-reader.ensures.closed c.in-Ok.ensures.0 c.in-Ok.ensures.1 c.in-Ok.ensures.2

pub returns-in-Err-clause-nesting : goal.returns-in-Err-clause-nesting
returns-in-Err-clause-nesting c = λ n e.
    let found : c.refusal.result ≡ refusal.Nesting n = cc in
    refused_nesting c.new-reader.result c.read_text.new.reader c.args.text.now c.in-Err.failure c.place.result c.refusal.result n c.new-reader.ensures.all c.new-reader.ensures.closed c.in-Err.ensures c.refusal.ensures found

pub returns-in-Err-clause-syntax : goal.returns-in-Err-clause-syntax
returns-in-Err-clause-syntax c = λ l k e.
    let found : c.refusal.result ≡ refusal.Syntax l k = cc in
    refused_syntax c.new-reader.result c.read_text.new.reader c.args.text.now c.in-Err.failure c.place.result c.refusal.result l k c.new-reader.ensures.all c.new-reader.ensures.closed c.place.ensures c.in-Err.ensures c.refusal.ensures found

pub returns-in-Err-clause-below : goal.returns-in-Err-clause-below
returns-in-Err-clause-below c = λ l k e.
    let found : c.refusal.result ≡ refusal.Syntax l k = cc in
    refused_below c.new-reader.result c.read_text.new.reader c.args.text.now c.in-Err.failure c.place.result c.refusal.result l k c.new-reader.ensures.all c.new-reader.ensures.closed c.in-Err.ensures c.refusal.ensures found
