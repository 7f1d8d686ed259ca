-- A chunk that is taken part by part.
use Rattle.std.proofs.Common.{◌≡◌, ℕ, ◌+◌, ◌≤◌, None, Some, Ok, Err, List, ◌++◌, length, take, drop, sym, ap, ◌∙◌, subst, append_assoc, append-nil, arith, length-drop, take-append-drop}
use Rattle.std.proofs.Math.Seq.{take-add}
use Rattle.wsn_io.specs.Transfer.{Outgoing}
use Rattle.wsn_io.specs.declared.stop.Stop.{Stop}
use Rattle.wsn_wire.specs.declared.endpoint.Role.{Role}
use Rattle.wsn_rules.specs.Limits.{Limits}
use Rattle.wsn_scan.specs.declared.scan.Scan.{Scan}
use Rattle.wsn_parts.specs.declared.answer.Payload.{Payload}
use Rattle.wsn_parts.specs.declared.event_at.EventAt.{EventAt}
use Rattle.wsn_parts.specs.Following.{HasSought, IsAnsweredAt, SeeksOn, SeeksThrough}
use Rattle.wsn_parts.specs.Payloads.{IsPayloadInFront}

module _ (role : Role) (limits : Limits) (at : ℕ) (scan : Scan) (kept : EventAt) (came chunk share : List ℕ) (i n : ℕ) (is : share ≡ drop i chunk) (within : i ≤ length chunk) (first now : Outgoing) where
  joined : (came ++ take i chunk) ++ take n share ≡ came ++ take (i + n) chunk
  joined =
      append_assoc came (take i chunk) (take n share) ∙ ap (λ (bs : List ℕ). came ++ (take i chunk ++ take n bs)) is ∙ ap (λ (bs : List ℕ). came ++ bs) (sym (take-add i n chunk))

  whole : (came ++ take i chunk) ++ share ≡ came ++ chunk
  whole = append_assoc came (take i chunk) share ∙ ap (λ (bs : List ℕ). came ++ (take i chunk ++ bs)) is ∙ ap (λ (bs : List ℕ). came ++ bs) (take-append-drop i chunk)

  pub more : SeeksOn role limits at scan kept (came ++ take i chunk) share first now (Ok (n, None)) → HasSought role limits at scan kept (came ++ take (i + n) chunk) first now
  more sought = subst (λ (bs : List ℕ). HasSought role limits at scan kept bs first now) joined sought

  pub answers : (answer : Payload) → n ≤ length share → SeeksOn role limits at scan kept (came ++ take i chunk) share first now (Ok (n, Some answer)) → SeeksThrough role limits at scan kept came chunk first now (Ok (Some answer))
  answers answer fits given = (
    i + n,
    (let size = ap (λ (bs : List ℕ). length bs) is in omega (arith, fits, size, length-drop i chunk, within)),
    (subst (λ (bs : List ℕ). length bs ≤ limits.input) joined given.0, subst (λ (bs : List ℕ). IsAnsweredAt role limits at bs first now answer) joined given.1),
  )

  pub fails : (stopped : Stop) → SeeksOn role limits at scan kept (came ++ take i chunk) share first now (Err stopped) → SeeksThrough role limits at scan kept came chunk first now (Err stopped)
  fails stopped given =
      let but = given.2 in (
        given.0,
        (given.1.0, subst (λ (bs : List ℕ). IsPayloadInFront role limits bs at given.1.0) whole given.1.1, given.1.2),
        record {
          done = but.done;
          last = but.last;
          whole = sym whole ∙ but.whole;
          short = let most = but.short in let size = ap (λ (bs : List ℕ). length bs) is in omega (arith, most, size, length-drop i chunk, within);
          written = but.written;
        },
      )

-- nothing has come of a chunk
pub none_of : (role : Role) (limits : Limits) (at : ℕ) (scan : Scan) (kept : EventAt) (came chunk : List ℕ) (first now : Outgoing) → HasSought role limits at scan kept came first now → HasSought role limits at scan kept (came ++ take 0 chunk) first now
none_of role limits at scan kept came chunk first now sought = subst (λ (bs : List ℕ). HasSought role limits at scan kept bs first now) (sym (append-nil came)) sought
