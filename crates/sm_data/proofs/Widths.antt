-- The rows so far have one length, and a row of another length makes the text uneven.
use Rattle.std.proofs.Common.{◌≡◌, ◌≢◌, ◌∙◌, sym, refl, subst, ℕ, true, false, List, [], ◌∷◌, ◌++◌, length, Option, Some, None, IfSome}
use Rattle.std.specs.List.{AllByRecursion}
use Rattle.csv.specs.Machine.{Read, next_record}
use Rattle.csv.specs.Reading.{ExplainsRead, NextIs, ReadsNext, Reached, default_config, pending_of, source_of, strip_bom}
use Rattle.csv.proofs.ReadFacts.{reached-more}
use Rattle.csv.specs.declared.parser.Config.{Config}
use Rattle.csv.specs.declared.parser.State.{State}
use Rattle.csv.specs.declared.parser.State.TheVariants as st
use Rattle.csv.specs.declared.reader.Reader.{Reader}
use Rattle.csv.specs.declared.error.ErrorKind.{ErrorKind}
use Rattle.csv.specs.declared.error.ErrorKind.TheVariants as kind
use Rattle.sm_data.specs.Records.{AreUneven, HaveWidth, Fields, refusal_by}
use Rattle.sm_data.specs.declared.refusal.DataCause.TheVariants as cause
use Rattle.sm_data.specs.Numbers.{bad}

push : (P : Fields → Type 0) (xs : List Fields) (x : Fields) → AllByRecursion P xs → P x → AllByRecursion P (xs ++ x ∷ [])
push P [] x h p = (p, tt)
push P (y ∷ ys) x h p = (h.0, push P ys x h.1 p)

-- a row more, of the length that was expected
pub width_more : (rows : List Fields) (old new : Option ℕ) (f : Fields) → HaveWidth rows old → IfSome old (λ e. new ≡ Some e) → new ≡ Some (length f) → HaveWidth (rows ++ f ∷ []) new
width_more [] old new f h kept is = (is, tt)
width_more (r ∷ rs) old new f h kept is =
    let same : new ≡ Some (length r) = rw h.0 at kept in
    (same, push (λ x. length x ≡ length r) rs f h.1 (let e : Some (length f) ≡ Some (length r) = sym is ∙ same in cc))

next_some : (o : Option Read) (f : Fields) (s : State) (rest : List ℕ) → NextIs o true f s rest → (p : Read) × (o ≡ Some p) × (f ≡ p.0)
next_some None f s rest n = let bad : true ≡ false = n in cc
next_some (Some p) f s rest n = (p, refl, n.1)

-- a row that was taken is reached
took_more : (cfg : Config) (s0 a b : State) (xs y : List ℕ) (rows : List Fields) (f : Fields) (after : Option (List ℕ))
    → ReadsNext cfg a (Some y) after true f b → Reached cfg s0 xs rows a y
    → (s : State) × (rest : List ℕ) × Reached cfg s0 xs (rows ++ f ∷ []) s rest
took_more cfg s0 a b xs y rows f None took h = absurd took
took_more cfg s0 a b xs y rows f (Some z) took h =
    let n = next_some (next_record cfg a [] [] y) f b z took in
    (n.0.1, n.0.2, subst (λ (r : Fields). Reached cfg s0 xs (rows ++ r ∷ []) n.0.1 n.0.2) (sym n.2) (reached-more cfg s0 a xs y rows n.0 h n.1))

-- a row of another length than the first
uneven : (bytes : List ℕ) (rows : List Fields) (old : Option ℕ) (e : ℕ) (f : Fields) (s : State) (rest : List ℕ) → HaveWidth rows old → old ≡ Some e → e ≢ length f
    → Reached default_config st.StartRecord (strip_bom bytes) (rows ++ f ∷ []) s rest → AreUneven bytes
uneven bytes [] old e f s rest width is other reached = let bad : None ≡ Some e = sym width ∙ is in cc
uneven bytes (r ∷ rs) old e f s rest width is other reached =
    let same : Some (length r) ≡ Some e = sym width.0 ∙ is in
    record { first = r; between = rs; last = f; state = s; rest = rest; reached = reached; lengths = λ q. other (let g : e ≡ length r = cc in g ∙ q) }

-- a read that fails, and is answered as a refusal of the text
pub refused : {R : Type 0} (rem : R → Option (List ℕ)) (a b : Reader R) (bytes y : List ℕ) (rows : List Fields) (k : ErrorKind)
    → a.config ≡ default_config → source_of rem a ≡ Some y → Reached default_config st.StartRecord (strip_bom bytes) rows a.state y
    → HaveWidth rows a.expected → ExplainsRead rem a b false k → refusal_by k ≡ bad cause.Csv → AreUneven bytes
refused rem a b bytes y rows (kind.UnequalLengths pos expected len) cfg source reached width why is =
    let took : ReadsNext default_config a.state (Some y) (pending_of (rem b.rdr) b) true why.3 b.state = rw (cfg, source) at why.4 in
    let more = took_more default_config st.StartRecord a.state b.state (strip_bom bytes) y rows why.3 (pending_of (rem b.rdr) b) took reached in
    uneven bytes rows a.expected expected why.3 more.0 more.1 width why.1 (λ q. why.2 (q ∙ why.5)) more.2
refused rem a b bytes y rows (kind.Io e) cfg source reached width why is = cc
refused rem a b bytes y rows (kind.Utf8 pos e) cfg source reached width why is = cc
refused rem a b bytes y rows kind.OutOfMemory cfg source reached width why is = cc
refused rem a b bytes y rows (kind.Serialize text) cfg source reached width why is = cc
refused rem a b bytes y rows (kind.Deserialize pos e) cfg source reached width why is = cc
