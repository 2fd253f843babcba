use Rattle.sm_store.proofs.layout.domain_at.Goals as goal

pub new-requires : goal.new-requires
new-requires c = (c.requires.parts.each c.args.var c.requires.known).part
