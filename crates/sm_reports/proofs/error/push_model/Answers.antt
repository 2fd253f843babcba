use Rattle.std.proofs.Common.{◌++◌, codes, ◌∙◌, ap}
use Rattle.std.proofs.lemmas.Result.{on_ok_weaker}
use Rattle.sm_reports.specs.Errors.{place_text}
use Rattle.sm_reports.specs.Words.{wrong_word}
use Rattle.sm_reports.proofs.Pieces.{and_then}
use Rattle.sm_reports.proofs.error.push_model.Goals as goal

pub returns : goal.returns
returns c =
    let old = c.args.into.now.items in
    let start = codes "error model " ++ place_text c.args.line c.args.column in
    let second = and_then old c.push_place.new.into.items c.extend_from_slice.new.self.items start (codes " ") c.in_ok-push_place.ensures c.in_ok-extend_from_slice.ensures.items in
    on_ok_weaker c.push_words.result (λ is. and_then old c.extend_from_slice.new.self.items c.push_words.new.into.items (start ++ codes " ") (wrong_word c.args.what) second
    (is ∙ ap (λ w. c.extend_from_slice.new.self.items ++ w) c.wrong_word.ensures)) c.push_words.ensures
