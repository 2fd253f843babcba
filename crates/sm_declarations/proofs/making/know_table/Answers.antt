use Rattle.std.proofs.Common.{rules, ◌≡◌, ◌∙◌, ap, sym, ◌++◌, ◌∷◌, [], List, ℕ, take, slice_get, is_some, Some, None}
use Rattle.sm_data.specs.Documents.{Entry}
use Rattle.sm_meaning.specs.Scopes as thing
use Rattle.sm_meaning.specs.Scopes.{Scope, found}
use Rattle.sm_meaning.specs.Expansions.{beginning, scope_of}
use Rattle.sm_declarations.proofs.Beginning.{known_tables, one_more, no_more}
use Rattle.sm_declarations.proofs.Growing.{on_ok}
use Rattle.sm_declarations.proofs.making.know_table.Goals as goal

pub insert-requires-clause-new : goal.insert-requires-clause-new
insert-requires-clause-new c =
    let front = take c.args.index c.args.tables.now in
    ap (λ (s : Scope). is_some (found s.names c.as_bytes.result.now)) c.requires
    ∙ ap (λ (n : List ℕ). is_some (found (beginning front).names n)) c.as_bytes.ensures.value
    ∙ known_tables c.in-Some.name.now front
    ∙ c.in-Some.ensures.new

pub returns-in-Some : goal.returns-in-Some
returns-in-Some c =
    let tables = c.args.tables.now in
    let old = c.args.scope.now in
    let table = c.in-Some.table.now in
    let at : slice_get tables c.args.index ≡ Some (c.in-Some.name.now, table) = search rules in
    on_ok c.insert.result _ _ (λ names. one_more tables c.args.index (c.in-Some.name.now, table) old c.insert.new.self at c.requires
    (names ∙ ap (λ (n : List ℕ). old.names ++ (n, thing.table table) ∷ []) c.as_bytes.ensures.value) c.insert.ensures.kinds) c.insert.ensures.ok

pub returns-in-None : goal.returns-in-None
returns-in-None c =
    let tables = c.args.tables.now in
    let at : None ≡ slice_get tables c.args.index = search rules in
    c.requires ∙ ap (λ (ts : List Entry). scope_of (beginning ts)) (sym (no_more tables c.args.index at))
