use Rattle.std.proofs.Common.{◌∙◌, sym, ap, ◌+◌, ◌-◌, ◌∷◌, Option, Some, length, take, drop, get_or}
use Rattle.sm_syntax.specs.declared.place.Place.{Place}
use Rattle.sm_syntax.specs.declared.terminal.Terminal.{Terminal}
use Rattle.sm_syntax.specs.Tokens.{before, place_behind, tokens_from}
use Rattle.sm_syntax.proofs.Cuts.{first_piece, digits_of}
use Rattle.sm_syntax.proofs.Pieces.{no_end, number_few, number_piece}
use Rattle.sm_syntax.proofs.token.next_piece.Goals as goal

pub returns-in_default-clause-cut : goal.returns-in_default-clause-cut
returns-in_default-clause-cut c =
    let end = c.length_behind-length.result + 1 in
    let rest = take (length c.args.text.now - end) (drop end c.args.text.now) in
    first_piece c.args.text.now c.args.place c.piece_of-piece.result c.length_behind-length.result c.requires c.piece_of-piece.ensures c.length_behind-length.ensures.value
    ∙ ap (λ (o : Option Terminal). before o (take end c.args.text.now) c.args.place (tokens_from rest (place_behind c.args.place (get_or c.args.text.now 0 0) end))) (sym c.terminal_of.ensures ∙ c.in_default.is)
    ∙ ap (tokens_from rest) (sym c.place_behind-next.ensures)

pub value_of-requires-clause-few : goal.value_of-requires-clause-few
value_of-requires-clause-few c = number_few c.piece_of-piece.result (take (c.length_behind-length.result + 1) c.args.text.now) c.in-Some.terminal (sym c.terminal_of.ensures ∙ c.in-Some.is)

pub value_of-requires-clause-digits : goal.value_of-requires-clause-digits
value_of-requires-clause-digits c = λ e.
    digits_of c.args.text.now c.piece_of-piece.result c.length_behind-length.result c.requires c.piece_of-piece.ensures c.length_behind-length.ensures.value
    (number_piece c.piece_of-piece.result (take (c.length_behind-length.result + 1) c.args.text.now) c.in-Some.terminal (sym c.terminal_of.ensures ∙ c.in-Some.is) e)

pub returns-clause-cut : goal.returns-clause-cut
returns-clause-cut c =
    let end = c.length_behind-length.result + 1 in
    let word = take end c.args.text.now in
    let rest = take (length c.args.text.now - end) (drop end c.args.text.now) in
    let t = c.in-Some.terminal in
    first_piece c.args.text.now c.args.place c.piece_of-piece.result c.length_behind-length.result c.requires c.piece_of-piece.ensures c.length_behind-length.ensures.value
    ∙ ap (λ (o : Option Terminal). before o word c.args.place (tokens_from rest (place_behind c.args.place (get_or c.args.text.now 0 0) end))) (sym c.terminal_of.ensures ∙ c.in-Some.is)
    ∙ ap (λ (p : Place). before (Some t) word c.args.place (tokens_from rest p)) (sym c.place_behind-next.ensures)
    ∙ ap (λ n. record { terminal = t; word = word; value = n; place = c.args.place } ∷ tokens_from rest c.place_behind-next.result) (sym c.value_of.ensures)

pub returns-clause-inner : goal.returns-clause-inner
returns-clause-inner c = no_end c.piece_of-piece.result (take (c.length_behind-length.result + 1) c.args.text.now) c.in-Some.terminal (sym c.terminal_of.ensures ∙ c.in-Some.is)
