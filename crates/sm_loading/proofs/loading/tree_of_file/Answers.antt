use Rattle.sm_loading.proofs.loading.tree_of_file.Goals as goal

pub returns-in-Ok-clause-cause : goal.returns-in-Ok-clause-cause
returns-in-Ok-clause-cause g c = λ files.
    c.tree_of_text.ensures.cause (g.F.Shelf.held c.args.shelf.now) c.args.model.now files (g.F.Shelf.faults c.args.shelf.now) (g.F.Shelf.faults c.content.new.shelf) (rw c.as_slice.ensures.value c.in-Ok.ensures.read)
