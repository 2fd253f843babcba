-- From line to line of a log.
use Rattle.std.proofs.Common.{◌≡◌, ◌++◌, ◌+◌, ◌-◌, ◌<◌, ◌≤◌, ◌^◌, ℕ, List, [], ◌∷◌, length, take, drop, Option, Some, None, refl, sym, ap, ◌∙◌, append_assoc, append-nil, arith, inl, inr, length-append}
use Rattle.std.specs.Prelude.{IfSome, IfOk, IfErr, OnOk, Result, Ok, Err, map}
use Rattle.std.proofs.Math.Seq.{take-add}
use Rattle.std.proofs.lemmas.List.{take-append-drop, take_all, drop_all, length-take-le, length-drop, map-append}
use Rattle.std.proofs.lemmas.List.Elements.{All-push, All-nil}
use Rattle.sm_flat.specs.Models.{FlatModel}
use Rattle.sm_step.specs.declared.line.Line.{Line}
use Rattle.sm_step.specs.declared.verdict.Verdict.{Verdict}
use Rattle.sm_step.specs.Text.{text_of}
use Rattle.sm_step.specs.Grammar.{IsLine}
use Rattle.sm_step.proofs.Lines.{begins_none}
use Rattle.sm_rules.specs.declared.cause.Cause.{Cause}
use Rattle.sm_rules.specs.declared.cause.Cause.TheVariants.{End}
use Rattle.sm_rules.specs.declared.cause.Cause.TheVariants as cause
use Rattle.sm_rules.specs.States.{State}
use Rattle.sm_rules.specs.Laws.{Allowed}
use Rattle.sm_rules.specs.Transitions.{after, Replays, IsRefusedFor}
use Rattle.sm_rules.specs.declared.log_state.ApplyRefusal.{ApplyRefusal}
use Rattle.sm_rules.specs.declared.log_state.ApplyRefusal.TheVariants as refusal
use Rattle.sm_rules.specs.Refusals.{IsRefusedBy}
use Rattle.sm_rules.specs.Sound.{IsOf}
use Rattle.sm_rules.proofs.Kept.{of_start}
use Rattle.sm_check.specs.Replays.{cut, IsRefusedPiece, FailsNext, FailsAt}
use Rattle.sm_check.specs.declared.refusal.CheckRefusal.{CheckRefusal}
use Rattle.sm_check.specs.declared.refusal.CheckRefusal.TheVariants.{Refused, ReadFault, LogTooLong, OutOfMemory}
use Rattle.sm_check.specs.Checks.{Proves, OfFile, IsFeedCause, IsCheckCause}
use Rattle.sm_check.specs.Feeds.{Fed, IsPiece, IsTooLong, IsFront, Readies}
use Rattle.sm_check.specs.Readings.{Sight, first_sight, IsAt, IsAtEnd, IsApplied, IsApplyCause, unread}
use Rattle.sm_check.proofs.Cutting.{Begun, cut_piece, cut_last, cut_begun, text_has_end, text_some}
use Rattle.sm_check.proofs.Truths.{log_is_true, log_is_true_on}

replays_push : (m : FlatModel) (a b : State) (xs : List Line) (l : Line) → Replays m a xs b → Allowed m b l → Replays m a (xs ++ l ∷ []) (after m b l)
replays_push m a b [] l runs ok = let e : b ≡ a = runs in let first = rw e at ok in (first, rw e refl)
replays_push m a b (x ∷ xs) l runs ok = (runs.0, replays_push m (after m a x) b xs l runs.1 ok)

-- ---- the start

told_start : (held : Option (List ℕ)) → IfSome held (λ file. take 0 file ≡ [] ++ [])
told_start None = tt
told_start (Some file) = refl

pub at_start : (m : FlatModel) (held : Option (List ℕ)) (r : Sight) → r ≡ first_sight m → IsOf m r.state → IsAt m held r
at_start m held r is of = let first = rw is at of in rw is (record {
  of = first;
  lines = [];
  each = All-nil IsLine;
  runs = refl;
  bytes = [];
  cuts = λ rest. refl;
  count = refl;
  few = omega arith;
  size = refl;
  limit = omega arith;
  told = told_start held;
})

-- ---- more bytes

told_more : (held : Option (List ℕ)) (place n : ℕ) (bytes left more : List ℕ) → n ≡ length more → IfSome held (λ file. take place file ≡ bytes ++ left) → IfSome held (λ file. more ≡ take (length more) (drop place file)) → IfSome held (λ file. take (place + n) file ≡ bytes ++ (left ++ more))
told_more None place n bytes left more e one two = tt
told_more (Some file) place n bytes left more e one two = rw (e, take-add place (length more) file, one, sym two) (append_assoc bytes left more)

pub at_ready : (m : FlatModel) (held : Option (List ℕ)) (old : Sight) (fed : Fed) (n : ℕ) → IsAt m held old → Readies held old.fed fed n → fed.place ≤ 2 ^ 40 → IsAt m held (record old { fed = fed })
at_ready m held old fed n at ready limit =
    let g = ready.gathers in
    record {
      of = at.of;
      lines = at.lines;
      each = at.each;
      runs = at.runs;
      bytes = at.bytes;
      cuts = at.cuts;
      count = at.count;
      few = at.few;
      size = rw (g.left, g.place, length-append old.fed.left g.more) (omega (arith, at.size));
      limit = limit;
      told = rw (g.left, g.place) (told_more held old.fed.place (length g.more) at.bytes old.fed.left g.more refl at.told g.told);
    }

-- ---- one line more

piece_of : (held : Option (List ℕ)) (fed : Fed) (n : ℕ) (l : Line) → IsFront held fed n → take n fed.left ≡ text_of l → n ≤ length fed.left → IsPiece (take n fed.left)
piece_of held fed n l (inl piece) is within = piece
piece_of held fed n l (inr (all, none, ends)) is within =
    let whole : take n fed.left ≡ fed.left = rw all (take_all (length fed.left) fed.left (omega arith)) in
    absurd (text_has_end l fed.left (sym whole ∙ is) none)

told_taken : (held : Option (List ℕ)) (place n : ℕ) (bytes left : List ℕ) → IfSome held (λ file. take place file ≡ bytes ++ left) → IfSome held (λ file. take place file ≡ (bytes ++ take n left) ++ drop n left)
told_taken None place n bytes left told = tt
told_taken (Some file) place n bytes left told = told ∙ sym (append_assoc bytes (take n left) (drop n left) ∙ ap (λ (x : List ℕ). bytes ++ x) (take-append-drop n left))

pub at_applied : (m : FlatModel) (held : Option (List ℕ)) (old new : Sight) (n : ℕ) → IsAt m held old → IsFront held old.fed n → n ≤ length old.fed.left → IsOf m new.state → IsApplied m (take n old.fed.left) old new → IsAt m held new
at_applied m held old new n at front within of by =
    let piece = take n old.fed.left in
    let size : length piece ≡ n = length-take-le n old.fed.left within in
    let whole : IsPiece piece = piece_of held old.fed n by.line front by.text within in
    let some : 0 < length piece = rw by.text (text_some by.line) in
    record {
      of = of;
      lines = at.lines ++ by.line ∷ [];
      each = All-push IsLine at.lines by.line at.each by.good;
      runs = rw by.state (replays_push m _ _ at.lines by.line at.runs by.allowed);
      bytes = at.bytes ++ piece;
      cuts = λ rest. cuts_more rest piece whole by.text;
      count = rw (by.count, at.count, length-append at.lines (by.line ∷ [])) refl;
      few = rw (length-append at.lines (by.line ∷ []), length-append at.bytes piece) (omega (arith, at.few, some));
      size = rw (by.fed, length-append at.bytes piece, length-drop (length piece) old.fed.left) (omega (arith, at.size, size, within));
      limit = rw by.fed at.limit;
      told = rw (by.fed, size) (told_taken held old.fed.place n at.bytes old.fed.left at.told);
    }
  where
    cuts_more : (rest piece : List ℕ) → IsPiece piece → piece ≡ text_of by.line → cut ((at.bytes ++ piece) ++ rest) ≡ map text_of (at.lines ++ by.line ∷ []) ++ cut rest
    cuts_more rest piece whole is =
        ap cut (append_assoc at.bytes piece rest)
        ∙ at.cuts (piece ++ rest)
        ∙ ap (λ (x : List (List ℕ)). map text_of at.lines ++ x) (cut_piece piece rest whole ∙ ap (λ (x : List ℕ). x ∷ cut rest) is)
        ∙ sym (ap (λ (x : List (List ℕ)). x ++ cut rest) (map-append text_of at.lines (by.line ∷ [])) ∙ append_assoc (map text_of at.lines) (text_of by.line ∷ []) (cut rest))

-- ---- refusals

-- what was read and is left, and what the file has behind it
record Whole (held : Option (List ℕ)) (place : ℕ) (bytes left : List ℕ) : Type 0 where
  more : List ℕ
  told : IfSome held (λ file. file ≡ bytes ++ (left ++ more))
  ends : IfSome held (λ file. length file ≤ place) → more ≡ []

whole_of : (held : Option (List ℕ)) (place : ℕ) (bytes left : List ℕ) → IfSome held (λ file. take place file ≡ bytes ++ left) → Whole held place bytes left
whole_of None place bytes left told = record { more = []; told = tt; ends = λ _. refl }
whole_of (Some file) place bytes left told = record {
  more = drop place file;
  told = sym (take-append-drop place file) ∙ ap (λ (x : List ℕ). x ++ drop place file) told ∙ append_assoc bytes left (drop place file);
  ends = λ le. drop_all place file le;
}

-- bytes that are too many are refused, and so is the piece that they begin, for the same cause
long_refused : (m : FlatModel) (s : State) (left front : List ℕ) (c : Cause) → IsTooLong left → IsRefusedPiece m s left c → IsRefusedPiece m s (left ++ front) c
long_refused m s left front c long fact = pick c fact
  where
    no_line : (l : Line) → IsLine l → left ≡ text_of l → ⊥
    no_line l good is = begins_none left long.0 long.1 l [] good (append-nil left ∙ is)

    pick : (c : Cause) → IsRefusedPiece m s left c → IsRefusedPiece m s (left ++ front) c
    pick cause.Grammar fact = λ l good is. begins_none left long.0 long.1 l front good is
    pick cause.Order (l, good, text, refused) = absurd (no_line l good text)
    pick cause.Law (l, good, text, refused) = absurd (no_line l good text)
    pick cause.Verdict (l, good, text, refused) = absurd (no_line l good text)
    pick cause.End (l, good, text, refused) = absurd (no_line l good text)

-- the first piece of what is left, refused where the first n bytes are, and the pieces behind it
record Fronted (n : ℕ) (left more : List ℕ) : Type 0 where
  piece : List ℕ
  rest : List (List ℕ)
  is : cut (left ++ more) ≡ piece ∷ rest
  refused : (m : FlatModel) (s : State) (c : Cause) → IsRefusedPiece m s (take n left) c → IsRefusedPiece m s piece c

fronted : (held : Option (List ℕ)) (fed : Fed) (n : ℕ) (more : List ℕ) → IsFront held fed n → 1 ≤ n → n ≤ length fed.left → (IfSome held (λ file. length file ≤ fed.place) → more ≡ []) → Fronted n fed.left more
fronted held fed n more (inl piece) some within ends = record {
  piece = take n fed.left;
  rest = cut (drop n fed.left ++ more);
  is = ap (λ (x : List ℕ). cut (x ++ more)) (sym (take-append-drop n fed.left)) ∙ ap cut (append_assoc (take n fed.left) (drop n fed.left) more) ∙ cut_piece (take n fed.left) (drop n fed.left ++ more) piece;
  refused = λ m s c fact. fact;
}
fronted held fed n more (inr (all, none, inl stop)) some within ends =
    let whole : take n fed.left ≡ fed.left = take_all n fed.left (omega (arith, all)) in
    record {
      piece = take n fed.left;
      rest = [];
      is = rw (ends stop, append-nil fed.left, whole) (cut_last fed.left none (omega (arith, all, some)));
      refused = λ m s c fact. fact;
    }
fronted held fed n more (inr (all, none, inr long)) some within ends =
    let whole : take n fed.left ≡ fed.left = take_all n fed.left (omega (arith, all)) in
    let begun : Begun fed.left more = cut_begun fed.left more none (omega (arith, all, some)) in
    record {
      piece = fed.left ++ begun.front;
      rest = begun.rest;
      is = begun.is;
      refused = λ m s c fact. let fact = rw whole at fact in long_refused m s fed.left begun.front c long fact;
    }

fails_next : (m : FlatModel) (held : Option (List ℕ)) (r : Sight) (at : IsAt m held r) (more : List ℕ) (pieces : List (List ℕ)) (k : ℕ) (c : Cause) → cut (r.fed.left ++ more) ≡ pieces → FailsNext m r.state pieces c → k ≡ r.count + 1 → FailsAt m (at.bytes ++ (r.fed.left ++ more)) k c
fails_next m held r at more pieces k c is fails number = record {
  lines = at.lines;
  state = r.state;
  before = map text_of at.lines;
  rest = pieces;
  pieces = at.cuts (r.fed.left ++ more) ∙ ap (λ (x : List (List ℕ)). map text_of at.lines ++ x) is;
  replays = record { each = at.each; text = refl; runs = at.runs };
  number = number ∙ ap (λ (x : ℕ). x + 1) at.count;
  fails = fails;
}

-- the first n bytes aren't an allowed line
pub fails_here : (m : FlatModel) (held : Option (List ℕ)) (r : Sight) (n k : ℕ) (c : Cause) → IsAt m held r → IsFront held r.fed n → 1 ≤ n → n ≤ length r.fed.left → IsRefusedPiece m r.state (take n r.fed.left) c → k ≡ r.count + 1 → OfFile held (λ log. FailsAt m log k c)
fails_here m held r n k c at front some within refused number =
    let w : Whole held r.fed.place at.bytes r.fed.left = whole_of held r.fed.place at.bytes r.fed.left at.told in
    let f : Fronted n r.fed.left w.more = fronted held r.fed n w.more front some within w.ends in
    record {
      log = at.bytes ++ (r.fed.left ++ w.more);
      told = w.told;
      holds = fails_next m held r at w.more (f.piece ∷ f.rest) k c f.is (f.refused m r.state c refused) number;
    }

-- ---- the end

told_end : (held : Option (List ℕ)) (place : ℕ) (bytes left : List ℕ) → left ≡ [] → IfSome held (λ file. length file ≤ place) → IfSome held (λ file. take place file ≡ bytes ++ left) → IfSome held (λ file. file ≡ bytes)
told_end None place bytes left none ends told = tt
told_end (Some file) place bytes left none ends told = let told = rw none at told in sym (take_all place file ends) ∙ told ∙ append-nil bytes

cut_all : (bytes : List ℕ) (pieces : List (List ℕ)) → ((rest : List ℕ) → cut (bytes ++ rest) ≡ pieces ++ cut rest) → cut bytes ≡ pieces
cut_all bytes pieces cuts = ap cut (sym (append-nil bytes)) ∙ cuts [] ∙ append-nil pieces

-- the log ends without a verdict
pub fails_end : (m : FlatModel) (held : Option (List ℕ)) (r : Sight) (k : ℕ) → IsAt m held r → IsAtEnd held r.fed → r.state.verdict ≡ None → k ≡ r.count + 1 → OfFile held (λ log. FailsAt m log k End)
fails_end m held r k at end none number = record {
  log = at.bytes;
  told = told_end held r.fed.place at.bytes r.fed.left end.none end.ends at.told;
  holds = record {
    lines = at.lines;
    state = r.state;
    before = map text_of at.lines;
    rest = [];
    pieces = cut_all at.bytes (map text_of at.lines) at.cuts ∙ sym (append-nil (map text_of at.lines));
    replays = record { each = at.each; text = refl; runs = at.runs };
    number = number ∙ ap (λ (x : ℕ). x + 1) at.count;
    fails = (refl, none);
  };
}

-- the log ends in a verdict, which is true
pub proves_end : (m : FlatModel) (held : Option (List ℕ)) (r : Sight) (v : Verdict) → IsAt m held r → IsAtEnd held r.fed → r.state.verdict ≡ Some v → OfFile held (λ log. Proves m log v)
proves_end m held r v at end stands = record {
  log = at.bytes;
  told = told_end held r.fed.place at.bytes r.fed.left end.none end.ends at.told;
  holds = record {
    ends = record {
      lines = at.lines;
      state = r.state;
      replays = record { each = at.each; text = cut_all at.bytes (map text_of at.lines) at.cuts; runs = at.runs };
      verdict = stands;
    };
    holds = log_is_true m at.lines r.state v (of_start m at.of.flat) at.runs stands;
    named = λ s within final. log_is_true_on m s at.lines r.state v (of_start m at.of.flat) within at.runs stands final;
  };
}

-- ---- a step

pub feed_cause : (m : FlatModel) (held : Option (List ℕ)) (a b : ℕ) (r : CheckRefusal) → IsFeedCause held a b r → IsCheckCause m held a b r
feed_cause m held a b (Refused line cause) fact = absurd fact
feed_cause m held a b ReadFault fact = fact
feed_cause m held a b LogTooLong fact = fact
feed_cause m held a b OutOfMemory fact = tt

pub apply_cause : (m : FlatModel) (held : Option (List ℕ)) (r : Sight) (n a b : ℕ) (e : CheckRefusal) → IsAt m held r → IsFront held r.fed n → 1 ≤ n → n ≤ length r.fed.left → IsApplyCause m r.state (take n r.fed.left) (r.count + 1) e → IsCheckCause m held a b e
apply_cause m held r n a b (Refused line cause) at front some within (is, refused) = fails_here m held r n line cause at front some within refused is
apply_cause m held r n a b ReadFault at front some within fact = absurd fact
apply_cause m held r n a b LogTooLong at front some within fact = absurd fact
apply_cause m held r n a b OutOfMemory at front some within fact = tt

no_piece : (body : List ℕ) → [] ≡ body ++ 10 ∷ [] → ⊥
no_piece body e = let size : length (body ++ 10 ∷ []) ≡ 0 = ap length (sym e) in let sum = length-append body (10 ∷ []) in omega (arith, size, sum)

none_left : (xs : List ℕ) → 0 ≡ length xs → xs ≡ []
none_left [] e = refl
none_left (x ∷ xs) e = absurd (omega (arith, e))

pub at_end : (held : Option (List ℕ)) (fed : Fed) (n : ℕ) → n ≡ 0 → IsFront held fed n → IsAtEnd held fed
at_end held fed n e (inl piece) = let is = rw e at piece.is in absurd (no_piece piece.body is)
at_end held fed n e (inr (all, none, inl ends)) = record { none = none_left fed.left (sym e ∙ all); ends = ends }
at_end held fed n e (inr (all, none, inr long)) = absurd (let many = long.0 in omega (arith, e, all, many))

-- fetching doesn't change how many bytes a log may still have
pub same_unread : (held : Option (List ℕ)) (a b : Fed) (n : ℕ) → Readies held a b n → b.place ≤ 2 ^ 40 → unread b ≡ unread a
same_unread held a b n ready limit =
    let g = ready.gathers in
    let sum = length-append a.left g.more in
    let left : length b.left ≡ length a.left + length g.more = ap length g.left ∙ sum in
    let place = g.place in
    omega (arith, left, place, limit)

-- each line leaves fewer bytes to read
pub falls : (m : FlatModel) (held : Option (List ℕ)) (old new : Sight) (n : ℕ) → IsAt m held old → 1 ≤ n → n ≤ length old.fed.left → IsApplied m (take n old.fed.left) old new → unread new.fed < unread old.fed
falls m held old new n at some within by =
    let size : length (take n old.fed.left) ≡ n = length-take-le n old.fed.left within in
    let less = length-drop (length (take n old.fed.left)) old.fed.left in
    let limit = at.limit in
    rw by.fed (omega (arith, size, less, limit, some, within))

-- a log has fewer lines than bytes
pub few_lines : (m : FlatModel) (held : Option (List ℕ)) (r : Sight) → IsAt m held r → r.count < 2 ^ 64 - 1
few_lines m held r at = let few = at.few in let size = at.size in let limit = at.limit in let count = at.count in omega (arith, few, size, limit, count)

-- ---- refusals of a line

pub refused_line : (m : FlatModel) (s : State) (piece : List ℕ) (k : ℕ) (l : Line) (c : Cause) (e : ApplyRefusal) (r : CheckRefusal) → IsLine l → piece ≡ text_of l → IsRefusedBy m s l e → e ≡ refusal.Refused c → r ≡ Refused k c → IsApplyCause m s piece k r
refused_line m s piece k l c e r good text refused by is = let fact = rw by at refused in rw is (refl, refused_piece c fact)
  where
    refused_piece : (c : Cause) → IsRefusedFor m s l c → IsRefusedPiece m s piece c
    refused_piece cause.Grammar fact = absurd fact
    refused_piece cause.Order fact = (l, good, text, fact)
    refused_piece cause.Law fact = (l, good, text, fact)
    refused_piece cause.Verdict fact = (l, good, text, fact)
    refused_piece cause.End fact = absurd fact

-- ---- where the shelf was lent on

pub both_ok : {E : Type 0} (r : Result ℕ E) (P : ℕ → Type 0) (Q R : Type 0) → ((n : ℕ) → P n → Q → R) → IfOk r P → OnOk r Q → OnOk r R
both_ok (Ok n) P Q R f p q = f n p q
both_ok (Err e) P Q R f p q = tt

pub at_same : (m : FlatModel) (held now : Option (List ℕ)) (r : Sight) → now ≡ held → IsAt m held r → IsAt m now r
at_same m held now r same at = rw same at

pub cause_same : (m : FlatModel) (held now : Option (List ℕ)) (a b c d : ℕ) (e : CheckRefusal) → now ≡ held → a ≤ b → IsCheckCause m now b c e → c ≤ d → IsCheckCause m held a d e
cause_same m held now a b c d (Refused line cause) same le fact more = let moved = rw same at fact in moved
cause_same m held now a b c d ReadFault same le fact more = omega (arith, le, fact, more)
cause_same m held now a b c d LogTooLong same le fact more = let moved = rw same at fact in moved
cause_same m held now a b c d OutOfMemory same le fact more = tt

pub accepted_end : (m : FlatModel) (held now : Option (List ℕ)) (r : Sight) (result : Result Verdict CheckRefusal) → now ≡ held → IsAt m now r → IsAtEnd now r.fed → IfOk result (λ v. r.state.verdict ≡ Some v) → IfOk result (λ v. OfFile held (λ log. Proves m log v))
accepted_end m held now r (Ok v) same at end stands = let proved = proves_end m now r v at end stands in let moved = rw same at proved in moved
accepted_end m held now r (Err e) same at end stands = tt

pub refused_end : (m : FlatModel) (held now : Option (List ℕ)) (r : Sight) (a b : ℕ) (result : Result Verdict CheckRefusal) → now ≡ held → IsAt m now r → IsAtEnd now r.fed → IfErr result (λ e. (r.state.verdict ≡ None) × (e ≡ Refused (r.count + 1) End)) → IfErr result (IsCheckCause m held a b)
refused_end m held now r a b (Ok v) same at end fact = tt
refused_end m held now r a b (Err e) same at end (none, is) = let failed = fails_end m now r (r.count + 1) at end none refl in let moved = rw same at failed in rw is moved
