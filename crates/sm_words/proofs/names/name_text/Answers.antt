use Rattle.std.proofs.Common.{rules, ◌≡◌, true}
use Rattle.sm_words.specs.Names.{is_name}
use Rattle.sm_words.proofs.Texts.{name_utf8}
use Rattle.sm_words.proofs.names.name_text.Goals as goal

pub returns-in-Err : goal.returns-in-Err
returns-in-Err c =
    let named : is_name c.args.bytes.now ≡ true = search rules in
    absurd (c.in-Err.ensures.cases.0 (name_utf8 c.args.bytes.now named))
