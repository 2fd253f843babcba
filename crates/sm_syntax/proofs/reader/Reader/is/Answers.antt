use Rattle.std.proofs.Common.{◌≡◌, ◌∙◌, ap, sym, rules}
use denote.Enum.Bare.{same_true, same_false}
use Rattle.sm_syntax.specs.contracts.terminal.Terminal.{the_type}
use Rattle.sm_syntax.specs.Terminals.{code_of}
use Rattle.sm_syntax.specs.Parsing.{kind}
use Rattle.sm_syntax.proofs.Codes.{same_code}
use Rattle.sm_syntax.proofs.NextTokens.{same_test}
use Rattle.sm_syntax.proofs.reader.Reader.is.Goals as goal

pub returns : goal.returns
returns c =
    let first : c.self.inside.token.terminal ≡ c.args.self.now.first.terminal = ap (λ s. s.first.terminal) c.self.view_is in
    same_test c.eq.result (code_of c.args.terminal) (kind c.args.self.now.first)
    (λ h. ap code_of (sym (same_true the_type (search rules) c.self.inside.token.terminal c.args.terminal (sym c.eq.ensures ∙ h)) ∙ first))
    (λ h e. same_false the_type c.self.inside.token.terminal c.args.terminal (sym c.eq.ensures ∙ h) (first ∙ sym (same_code c.args.terminal c.args.self.now.first.terminal e)))
