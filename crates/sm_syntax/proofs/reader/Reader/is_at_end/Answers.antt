use Rattle.std.proofs.Common.{◌≡◌, ◌∙◌, ap, sym, rules}
use denote.Enum.Bare.{same_true, same_false}
use Rattle.sm_syntax.specs.contracts.terminal.Terminal.{the_type}
use Rattle.sm_syntax.specs.declared.terminal.Terminal.TheVariants as terminal
use Rattle.sm_syntax.specs.Terminals.{code_of}
use Rattle.sm_syntax.specs.Tokens.{tokens_from}
use Rattle.sm_syntax.specs.Lexing.{seen}
use Rattle.sm_syntax.specs.Parsing.{kind}
use Rattle.sm_syntax.specs.Reading.{Standing}
use Rattle.sm_syntax.proofs.Codes.{same_code}
use Rattle.sm_syntax.proofs.NextTokens.{behind_end, same_test}
use Rattle.sm_syntax.proofs.reader.Reader.is_at_end.Goals as goal

pub returns-clause-next : goal.returns-clause-next
returns-clause-next c =
    let first : c.self.inside.token.terminal ≡ c.args.self.now.first.terminal = ap (λ s. s.first.terminal) c.self.view_is in
    same_test c.eq.result 69 (kind c.args.self.now.first)
    (λ h. ap code_of (sym (same_true the_type (search rules) c.self.inside.token.terminal terminal.End (sym c.eq.ensures ∙ h)) ∙ first))
    (λ h e. same_false the_type c.self.inside.token.terminal terminal.End (sym c.eq.ensures ∙ h) (first ∙ sym (same_code terminal.End c.args.self.now.first.terminal e)))

pub returns-clause-last : goal.returns-clause-last
returns-clause-last c = λ h.
    let first : c.self.inside.token.terminal ≡ c.args.self.now.first.terminal = ap (λ s. s.first.terminal) c.self.view_is in
    let is : terminal.End ≡ c.self.inside.token.terminal = sym (same_true the_type (search rules) c.self.inside.token.terminal terminal.End (sym c.eq.ensures ∙ h)) in
    sym (ap (λ (s : Standing). s.later) c.self.view_is) ∙ behind_end (seen c.self.inside.token) (tokens_from c.self.inside.rest.now c.self.inside.next) (ap code_of is)
