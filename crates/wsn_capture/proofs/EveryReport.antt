-- Every list of entries has a report, if the limits are in range.
use Rattle.std.proofs.Common.{◌≡◌, ℕ, ◌+◌, ◌<◌, Bool, true, false, Option, None, Some, is_some, Result, Ok, Err, List, [], ◌∷◌, ◌++◌, length, inl, inr, refl, sym, ◌∙◌, subst, append_assoc, append-nil, arith}
use Rattle.std.proofs.lemmas.List.Concat.{flat_map-append}
use Rattle.hex.specs.Hex.{decode_of, decode_pairs, hex_digit_value, pair_value}
use Rattle.hex.specs.declared.error.FromHexError.{FromHexError}
use Rattle.hex.proofs.Pairs.{cons_byte, decode_pairs-ok_pair, decode_pairs-err_pair}
use Rattle.wsn_wire.specs.declared.endpoint.Role.{Role}
use Rattle.wsn_wire.specs.declared.endpoint.Role.TheVariants.{Client, Server}
use Rattle.wsn_wire.specs.Frame.{Frame, IsBytes}
use Rattle.wsn_wire.proofs.FrameLemmas.{IsBytes-append, IsBytes-left}
use Rattle.wsn_rules.specs.declared.verdict.Verdict.{Verdict}
use Rattle.wsn_rules.specs.declared.verdict.Verdict.TheVariants.{Accepted, Cut, Refused}
use Rattle.wsn_rules.specs.Limits.{Limits, InRange}
use Rattle.wsn_rules.specs.Verdict.{IsVerdict}
use Rattle.wsn_rules.proofs.EveryInput.{has_verdict}
use Rattle.wsn_rules.proofs.Prefixes.{nil-push, nil-parts}
use Rattle.wsn_rules.specs.declared.closing_handshake.Side.{Side}
use Rattle.wsn_rules.specs.declared.closing_handshake.Report.{Report}
use Rattle.wsn_rules.specs.Entries.{Entry, GivesEntry, AreEntries}
use Rattle.wsn_rules.specs.Sides.{bytes_in, sent, has_ended, side_of, IsSide}
use Rattle.wsn_rules.specs.ClosingHandshake.{echo_of, seen_of, IsReport}
use Rattle.wsn_capture.specs.CloseLines.{IsUnclosed, IsClosedBy, IsCloseLine, earlier_of}
use Rattle.wsn_capture.proofs.PairedDigits.{pair_of}
use Rattle.wsn_capture.proofs.ClosingLines.{accepted_closed, cut_unclosed, sent-push, closes_longer, line_new, line_none}
use Rattle.wsn_capture.proofs.ReportedLines.{first_by_lines}
use Rattle.wsn_rules.proofs.Outcomes.{has_outcome}
use Rattle.wsn_capture.proofs.DigitBlocks.{small_value}

-- ---- digits encode bytes

pair_small : (high low i : ℕ) (h l : Option ℕ) (v : ℕ) → ((d : ℕ) → h ≡ Some d → d < 16) → ((d : ℕ) → l ≡ Some d → d < 16) → pair_of high low i h l ≡ Ok v → v < 256
pair_small high low i h l v small also is = grind arith

decoded_bytes : (i : ℕ) (digits bytes : List ℕ) → decode_pairs i digits ≡ Ok bytes → IsBytes bytes
unfolding decode_pairs
decoded_bytes i [] bytes is = let none : [] ≡ bytes = cc in subst IsBytes none tt
decoded_bytes i (digit ∷ []) bytes is = absurd (cc is)
decoded_bytes i (high ∷ low ∷ rest) bytes is = by_pair (decoded_bytes (i + 2) rest) (pair_value high low i) refl
  where
    by_rest : (v : ℕ) (r : Result (List ℕ) FromHexError) → ((more : List ℕ) → r ≡ Ok more → IsBytes more) → v < 256 → cons_byte v r ≡ Ok bytes → IsBytes bytes
    by_rest v r following small whole = grind arith

    by_pair : ((more : List ℕ) → decode_pairs (i + 2) rest ≡ Ok more → IsBytes more) → (r : Result ℕ FromHexError) → pair_value high low i ≡ r → IsBytes bytes
    by_pair following (Ok v) pair =
        by_rest v (decode_pairs (i + 2) rest) following (pair_small high low i (hex_digit_value high) (hex_digit_value low) v (small_value high) (small_value low) pair)
        (sym (decode_pairs-ok_pair i high low v rest pair) ∙ is)
    by_pair following (Err e) pair = let both : Err e ≡ Ok bytes = sym (decode_pairs-err_pair i high low e rest pair) ∙ is in absurd (cc both)

encoded_bytes : (digits bytes : List ℕ) → decode_of digits ≡ Ok bytes → IsBytes bytes
encoded_bytes digits bytes is = grind (arith, decoded_bytes)

entry_bytes : (role : Role) (text : List ℕ) (entry : Entry) → GivesEntry text entry → IsBytes (bytes_in role entry)
entry_bytes role text entry is = grind (arith, encoded_bytes)

pub sent_bytes : (role : Role) (lines : List (List ℕ)) (entries : List Entry) → AreEntries lines entries → IsBytes (sent role entries)
sent_bytes role [] [] are = tt
sent_bytes role (line ∷ lines) (entry ∷ entries) are =
    IsBytes-append (bytes_in role entry) (sent role entries) (entry_bytes role _ entry are.0) (sent_bytes role lines entries are.1)
sent_bytes role _ _ are = absurd are

-- ---- where a Close ends

pub nothing_closed : (role : Role) (limits : Limits) → IsUnclosed role limits []
nothing_closed role limits fs is closes = grind (arith, flat_map-append, nil-push, nil-parts)

module _ (role : Role) (limits : Limits) (range : InRange limits) where
  closed_or_not : (bytes : List ℕ) → IsBytes bytes → (closed : Bool) × IsClosedBy role limits bytes closed
  closed_or_not bytes in_bytes = let found = has_verdict role limits range bytes in_bytes in by_verdict found.frames found.verdict found.is
    where
      by_verdict : (fs : List Frame) (verdict : Verdict) → IsVerdict role limits bytes fs verdict → (closed : Bool) × IsClosedBy role limits bytes closed
      by_verdict fs (Accepted summary) is = (is_some summary.close, accepted_closed role limits bytes fs summary is)
      by_verdict fs (Cut summary) is = (false, cut_unclosed role limits bytes fs (Cut summary) is (inl (summary, refl)))
      by_verdict fs (Refused refusal) is = (false, cut_unclosed role limits bytes fs (Refused refusal) is (inr (refusal, refl)))

  one_more : (given : List Entry) (entry : Entry) (known : Option ℕ) → IsCloseLine role limits given known → IsBytes (sent role (given ++ entry ∷ [])) → (noted : Option ℕ) × IsCloseLine role limits (given ++ entry ∷ []) noted
  one_more given entry (Some line) is in_bytes = (Some line, closes_longer role limits given entry line is)
  one_more given entry None is in_bytes =
      let found = closed_or_not (sent role given ++ bytes_in role entry) (subst IsBytes (sent-push role given entry) in_bytes) in
      by_closed found.0 found.1
    where
      by_closed : (closed : Bool) → IsClosedBy role limits (sent role given ++ bytes_in role entry) closed → (noted : Option ℕ) × IsCloseLine role limits (given ++ entry ∷ []) noted
      by_closed true closes = (Some (length given), line_new role limits given entry is closes)
      by_closed false unclosed = (None, line_none role limits given entry unclosed)

  further : (given rest : List Entry) (known : Option ℕ) → IsCloseLine role limits given known → IsBytes (sent role (given ++ rest)) → (noted : Option ℕ) × IsCloseLine role limits (given ++ rest) noted
  further given [] known is in_bytes = (known, subst (λ (es : List Entry). IsCloseLine role limits es known) (sym (append-nil given)) is)
  further given (entry ∷ rest) known is in_bytes =
      let same : (given ++ entry ∷ []) ++ rest ≡ given ++ entry ∷ rest = append_assoc given (entry ∷ []) rest in
      let moved = subst (λ (es : List Entry). IsBytes (sent role es)) (sym same) in_bytes in
      let front = IsBytes-left (sent role (given ++ entry ∷ [])) (sent role rest) (subst IsBytes (flat_map-append (bytes_in role) (given ++ entry ∷ []) rest) moved) in
      let next = one_more given entry known is front in
      let all = further (given ++ entry ∷ []) rest next.0 next.1 moved in
      (all.0, subst (λ (es : List Entry). IsCloseLine role limits es all.0) same all.1)

  pub has_close_line : (entries : List Entry) → IsBytes (sent role entries) → (line : Option ℕ) × IsCloseLine role limits entries line
  has_close_line entries = further [] entries None (nothing_closed role limits)

  pub has_side : (bytes : List ℕ) (ended : Bool) → IsBytes bytes → (side : Side) × IsSide role limits bytes ended side
  has_side bytes ended in_bytes =
      let found = has_verdict role limits range bytes in_bytes in
      (side_of found.verdict ended, (found.frames, found.verdict, found.is, refl))

-- ---- the report

pub has_report : (limits : Limits) (lines : List (List ℕ)) (entries : List Entry) → InRange limits → AreEntries lines entries → (report : Report) × IsReport limits lines report
has_report limits lines entries range are =
    let client_bytes = sent_bytes Client lines entries are in
    let server_bytes = sent_bytes Server lines entries are in
    let client = has_side Client limits range (sent Client entries) (has_ended Client entries) client_bytes in
    let server = has_side Server limits range (sent Server entries) (has_ended Server entries) server_bytes in
    let client_line = has_close_line Client limits range entries client_bytes in
    let server_line = has_close_line Server limits range entries server_bytes in
    let outcome = has_outcome client.0 server.0 (has_ended Client entries) (has_ended Server entries) in (
      record {
        client = client.0;
        server = server.0;
        first = earlier_of client_line.0 server_line.0;
        echo = echo_of client.0 server.0;
        client_sees = seen_of server.0;
        server_sees = seen_of client.0;
        outcome = outcome.0;
      },
      record {
        entries = entries;
        given = are;
        is = record {
          client = client.1;
          server = server.1;
          first = first_by_lines limits entries client_line.0 server_line.0 client_line.1 server_line.1;
          echo = refl;
          client_sees = refl;
          server_sees = refl;
          outcome = outcome.1;
        };
      },
    )
