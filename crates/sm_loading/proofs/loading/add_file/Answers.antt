use Rattle.std.proofs.Common.{sym, subst}
use Rattle.sm_loading.specs.declared.refusal.LoadRefusal.{LoadRefusal}
use Rattle.sm_loading.specs.Loading.{IsRead, IsLoadCause}
use Rattle.sm_loading.proofs.Files.{data_cause}
use Rattle.sm_loading.proofs.loading.add_file.Goals as goal

pub returns-clause-cause : goal.returns-clause-cause
returns-clause-cause g c = λ model files reaches.
    let held = g.F.Shelf.held c.args.shelf.now in
    let before = g.F.Shelf.faults c.args.shelf.now in
    let now = g.F.Shelf.faults c.content.new.shelf in
    let read : IsRead held c.args.name.now c.as_slice.result.now = rw c.as_slice.ensures.value c.in-Ok.ensures.read in
    subst (λ (r : LoadRefusal). IsLoadCause held model files before now r) (sym c.refusal_of_data.ensures)
    (data_cause held model c.args.name.now files c.args.number c.args.tables.now c.add.new.self c.as_slice.result.now before now c.in-Err-add.refusal reaches read c.in-Err-add.ensures.file)
