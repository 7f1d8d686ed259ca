-- The line with the offending byte of a stream: there is exactly one if the stream is refused, and it stays.
use Rattle.std.proofs.Common.{◌≡◌, ℕ, ◌+◌, ◌-◌, ◌<◌, ◌≤◌, Option, None, Some, List, [], ◌∷◌, ◌++◌, length, take, drop, inl, inr, refl, sym, ap, ◌∙◌, subst, append_assoc, append-nil, arith, length-append}
use Rattle.std.specs.Prelude.{min, replicate, slice_index_or}
use Rattle.std.proofs.lemmas.Bool.{cases_lt}
use Rattle.std.proofs.lemmas.List.{take-append-le, take-append-drop, take_all, take_at, drop_all, drop_more, take-replicate, drop-replicate, length-take, length-drop, length-replicate}
use Rattle.std.proofs.lemmas.List.Concat.{flat_map-append}
use Rattle.wsn_wire.specs.declared.endpoint.Role.{Role}
use Rattle.wsn_wire.specs.declared.endpoint.Role.TheVariants.{Client, Server}
use Rattle.wsn_wire.specs.Frame.{Frame}
use Rattle.wsn_rules.specs.declared.verdict.Refusal.{Refusal}
use Rattle.wsn_rules.specs.declared.verdict.Verdict.{Verdict}
use Rattle.wsn_rules.specs.declared.verdict.Verdict.TheVariants.{Accepted, Cut, Refused}
use Rattle.wsn_rules.specs.Limits.{Limits, InRange}
use Rattle.wsn_rules.specs.Verdict.{IsVerdict, IsUnrefused}
use Rattle.wsn_rules.specs.Entries.{Entry, AreEntries}
use Rattle.wsn_rules.specs.Entries.Entry.{Bytes}
use Rattle.wsn_rules.specs.Sides.{bytes_in, sent}
use Rattle.wsn_rules.proofs.OneVerdict.{one_verdict}
use Rattle.wsn_rules.proofs.EveryInput.{has_verdict}
use Rattle.wsn_rules.proofs.Prefixes.{two_fronts, head_same}
use Rattle.wsn_rules.proofs.StaysRefused.{place_within, refused_alike, stays_refused}
use Rattle.wsn_capture.specs.declared.refused_line.RefusedLine.{RefusedLine}
use Rattle.wsn_capture.specs.declared.refused_line.RefusedLines.{RefusedLines}
use Rattle.wsn_capture.specs.RefusedLines.{IsKept, IsKeptOf, HasRefusedLine, IsRefusedLine, AreRefusedLines}
use Rattle.wsn_capture.proofs.ClosingLines.{sent-push}
use Rattle.wsn_capture.proofs.EveryReport.{sent_bytes}

-- ---- what is kept of a line

-- a byte within bytes
byte_there : (n : ℕ) (bytes : List ℕ) → n < length bytes → (byte : ℕ) × (later : List ℕ) × (drop n bytes ≡ byte ∷ later)
byte_there n bytes within = by_rest (drop n bytes) refl
  where
    by_rest : (rest : List ℕ) → drop n bytes ≡ rest → (byte : ℕ) × (later : List ℕ) × (drop n bytes ≡ byte ∷ later)
    by_rest [] is = let size = ap (λ (bs : List ℕ). length bs) is in absurd (omega (arith, within, size, length-drop n bytes))
    by_rest (byte ∷ later) is = (byte, later, is)

pub index_there : (n : ℕ) (bytes : List ℕ) → n < length bytes → (later : List ℕ) × (drop n bytes ≡ slice_index_or bytes n 0 ∷ later)
index_there n bytes within = (drop (n + 1) bytes, drop_more bytes n 0 within)

-- the number of bytes that are kept
pub count_kept : (bytes : List ℕ) (count : ℕ) → count ≡ min (length bytes) 256 → count ≡ length (take 256 bytes)
count_kept bytes count is = omega (arith, is, length-take 256 bytes)

-- the zeros that the bytes are written over
abbrev zeros : List ℕ
zeros = replicate 256 0

zeros_size : length zeros ≡ 256
zeros_size = length-replicate {A = ℕ} 256 0

-- these bytes over zeros
pub first_kept : (bytes copied : List ℕ) (count : ℕ) → count ≡ min (length bytes) 256 → copied ≡ take count bytes → copied ++ drop count (replicate 256 0) ≡ take 256 (bytes ++ replicate 256 0)
first_kept bytes copied count is same =
    ap (λ (bs : List ℕ). bs ++ drop count zeros) same
    ∙ elim (cases_lt (length bytes) 256) [
      | inl few ↦
          let all : count ≡ length bytes = omega (arith, is, few) in
          let size : length (bytes ++ take (256 - length bytes) zeros) ≡ 256 = omega (arith, few, length-append bytes (take (256 - length bytes) zeros), length-take (256 - length bytes) zeros, zeros_size) in
          let rest : take (256 - length bytes) zeros ≡ drop count zeros =
          take-replicate (256 - length bytes) 256 0 (omega arith) ∙ ap (λ (n : ℕ). replicate (256 - n) 0) (sym all) ∙ sym (drop-replicate count 256 0) in
          let parts : (bytes ++ take (256 - length bytes) zeros) ++ drop (256 - length bytes) zeros ≡ bytes ++ zeros =
          append_assoc bytes (take (256 - length bytes) zeros) (drop (256 - length bytes) zeros)
          ∙ ap (λ (bs : List ℕ). bytes ++ bs) (take-append-drop (256 - length bytes) zeros) in
          ap (λ (bs : List ℕ). bs ++ drop count zeros) (take_all count bytes (omega (arith, all)))
          ∙ ap (λ (bs : List ℕ). bytes ++ bs) (sym rest)
          ∙ sym (take_at (bytes ++ take (256 - length bytes) zeros) (drop (256 - length bytes) zeros) 256 size)
          ∙ ap (λ (bs : List ℕ). take 256 bs) parts
      | inr many ↦
          let all : count ≡ 256 = omega (arith, is, many) in
          ap (λ (n : ℕ). take n bytes ++ drop n zeros) all
          ∙ ap (λ (bs : List ℕ). take 256 bytes ++ bs) (drop_all 256 zeros (omega (arith, zeros_size)))
          ∙ append-nil (take 256 bytes)
          ∙ sym (take-append-le 256 bytes zeros many)
    ]

some_kept : (start : ℕ) (bytes : List ℕ) (offset : ℕ) → start ≤ offset → offset < start + length bytes → (line : RefusedLine) × IsKept start bytes offset line
some_kept start bytes offset from within =
    let byte = byte_there (offset - start) bytes (omega (arith, from, within)) in (
      record { start = start; byte = byte.0; count = length (take 256 bytes); first = take 256 (bytes ++ replicate 256 0) },
      record { starts = refl; after_start = from; offending = (byte.1, byte.2); counted = refl; firsts = refl },
    )

one_kept : (start : ℕ) (bytes : List ℕ) (offset : ℕ) (line other : RefusedLine) → IsKept start bytes offset line → IsKept start bytes offset other → line ≡ other
one_kept start bytes offset line other is also = grind (arith, head_same)

kept_within : (start : ℕ) (bytes : List ℕ) (offset : ℕ) (line : RefusedLine) → IsKept start bytes offset line → offset < start + length bytes
kept_within start bytes offset line is =
    omega (arith, ap (λ (bs : List ℕ). length bs) is.offending.1, length-drop (offset - start) bytes, is.after_start)

-- ---- the entry with a byte of a stream

-- an entry with bytes is the endpoint's
has_bytes : (role : Role) (entry : Entry) → 0 < length (bytes_in role entry) → entry ≡ Bytes role (bytes_in role entry)
has_bytes role entry fact = grind arith

pub own_bytes : (role : Role) (bytes : List ℕ) → bytes_in role (Bytes role bytes) ≡ bytes
own_bytes role bytes = grind arith

-- The entries have this one, with the byte at the offset.
record HasEntry (role : Role) (entries : List Entry) (offset : ℕ) : Type 0 where
  pub before : List Entry
  pub bytes : List ℕ
  pub after : List Entry
  pub whole : entries ≡ before ++ Bytes role bytes ∷ after
  pub from : length (sent role before) ≤ offset
  pub within : offset < length (sent role before) + length bytes

entry_there : (role : Role) (entries : List Entry) (offset : ℕ) → offset < length (sent role entries) → HasEntry role entries offset
entry_there role [] offset less = absurd (omega (arith, less))
entry_there role (entry ∷ entries) offset less =
    let size : length (sent role (entry ∷ entries)) ≡ length (bytes_in role entry) + length (sent role entries) = length-append (bytes_in role entry) (sent role entries) in
    elim (cases_lt offset (length (bytes_in role entry))) [
      | inl here ↦ record {
        before = [];
        bytes = bytes_in role entry;
        after = entries;
        whole = ap (λ (e : Entry). e ∷ entries) (has_bytes role entry (omega (arith, here)));
        from = omega arith;
        within = omega (arith, here);
      }
      | inr later ↦
          let rest = entry_there role entries (offset - length (bytes_in role entry)) (omega (arith, less, size, later)) in
          let front : length (sent role (entry ∷ rest.before)) ≡ length (bytes_in role entry) + length (sent role rest.before) = length-append (bytes_in role entry) (sent role rest.before) in
          record {
            before = entry ∷ rest.before;
            bytes = rest.bytes;
            after = rest.after;
            whole = ap (λ (es : List Entry). entry ∷ es) rest.whole;
            from = omega (arith, front, rest.from, later);
            within = omega (arith, front, rest.within, later);
          }
    ]

-- ---- some line

pub unrefused_by : (role : Role) (limits : Limits) (stream : List ℕ) (fs : List Frame) (verdict : Verdict) → IsVerdict role limits stream fs verdict → ((refusal : Refusal) → verdict ≡ Refused refusal → ⊥) → IsUnrefused role limits stream
unrefused_by role limits stream fs verdict is none =
    λ gs offset reason also. none (record { offset = offset; reason = reason }) (one_verdict role limits stream fs gs verdict (Refused (record { offset = offset; reason = reason })) is also).1

pub some_line : (role : Role) (limits : Limits) (given : List Entry) (fs : List Frame) (verdict : Verdict) → IsVerdict role limits (sent role given) fs verdict → (line : Option RefusedLine) × IsRefusedLine role limits given line
some_line role limits given fs (Refused refusal) is =
    let within = place_within role limits fs (sent role given) refusal.offset refusal.reason is.is_evident in
    let there = entry_there role given refusal.offset (omega (arith, within)) in
    let kept = some_kept (length (sent role there.before)) there.bytes refusal.offset there.from there.within in (
      Some kept.0,
      record { frames = fs; refusal = refusal; refused = is; before = there.before; bytes = there.bytes; after = there.after; whole = there.whole; kept = kept.1 },
    )
some_line role limits given fs (Accepted summary) is = (None, unrefused_by role limits (sent role given) fs (Accepted summary) is (λ refusal same. cc same))
some_line role limits given fs (Cut summary) is = (None, unrefused_by role limits (sent role given) fs (Cut summary) is (λ refusal same. cc same))

-- ---- one line

-- the second of two lines with the byte isn't after the first
goes_on : (role : Role) (before others after following : List Entry) (bytes more : List ℕ) (offset : ℕ) (line other : RefusedLine) → IsKept (length (sent role before)) bytes offset line → IsKept (length (sent role others)) more offset other
    → (between : List Entry) → others ≡ before ++ between → Bytes role bytes ∷ after ≡ between ++ Bytes role more ∷ following → line ≡ other
goes_on role before others after following bytes more offset line other is also [] fronts rest =
    let same : others ≡ before = fronts ∙ append-nil before in
    let entries : Bytes role bytes ≡ Bytes role more = head_same _ _ _ _ rest in
    let equal : more ≡ bytes = sym (own_bytes role more) ∙ ap (bytes_in role) (sym entries) ∙ own_bytes role bytes in
    one_kept (length (sent role before)) bytes offset line other is
    (subst (λ (bs : List ℕ). IsKept (length (sent role before)) bs offset other) equal (subst (λ (es : List Entry). IsKept (length (sent role es)) more offset other) same also))
goes_on role before others after following bytes more offset line other is also (entry ∷ between) fronts rest =
    let entries : Bytes role bytes ≡ entry = head_same _ _ _ _ rest in
    let all : sent role others ≡ sent role before ++ (bytes_in role entry ++ sent role between) = ap (sent role) fronts ∙ flat_map-append (bytes_in role) before (entry ∷ between) in
    let size = ap (λ (bs : List ℕ). length bs) all ∙ length-append (sent role before) (bytes_in role entry ++ sent role between) in
    let own_size = ap (λ (bs : List ℕ). length bs) (ap (bytes_in role) (sym entries) ∙ own_bytes role bytes) in
    let within = kept_within (length (sent role before)) bytes offset line is in
    absurd (omega (arith, size, length-append (bytes_in role entry) (sent role between), own_size, within, also.after_start))

one_refused : (role : Role) (limits : Limits) (given : List Entry) (line other : RefusedLine) → HasRefusedLine role limits given line → HasRefusedLine role limits given other → line ≡ other
one_refused role limits given line other is also =
    let verdicts : Refused is.refusal ≡ Refused also.refusal = (one_verdict role limits (sent role given) is.frames also.frames (Refused is.refusal) (Refused also.refusal) is.refused also.refused).1 in
    let refusals : is.refusal ≡ also.refusal = cc verdicts in
    let kept : IsKept (length (sent role also.before)) also.bytes is.refusal.offset other = subst (λ (r : Refusal). IsKept (length (sent role also.before)) also.bytes r.offset other) (sym refusals) also.kept in
    elim (two_fronts is.before also.before (Bytes role is.bytes ∷ is.after) (Bytes role also.bytes ∷ also.after) (sym is.whole ∙ also.whole)) [
      | inl on ↦ goes_on role is.before also.before is.after also.after is.bytes also.bytes is.refusal.offset line other is.kept kept on.0 on.1 on.2
      | inr on ↦ sym (goes_on role also.before is.before also.after is.after also.bytes is.bytes is.refusal.offset other line kept is.kept on.0 on.1 on.2)
    ]

pub one_line : (role : Role) (limits : Limits) (given : List Entry) (line other : Option RefusedLine) → IsRefusedLine role limits given line → IsRefusedLine role limits given other → line ≡ other
one_line role limits given (Some line) (Some other) is also = ap (λ (l : RefusedLine). Some l) (one_refused role limits given line other is also)
one_line role limits given (Some line) None is also = absurd (also is.frames is.refusal.offset is.refusal.reason is.refused)
one_line role limits given None (Some other) is also = absurd (is also.frames also.refusal.offset also.refusal.reason also.refused)
one_line role limits given None None is also = refl

-- ---- both endpoints

pub one_refused_lines : (limits : Limits) (entries : List Entry) (lines others : RefusedLines) → AreRefusedLines limits entries lines → AreRefusedLines limits entries others → lines ≡ others
one_refused_lines limits entries lines others are also = grind (arith, one_line)

pub has_refused_lines : (limits : Limits) (lines : List (List ℕ)) (entries : List Entry) → InRange limits → AreEntries lines entries → (refused : RefusedLines) × AreRefusedLines limits entries refused
has_refused_lines limits lines entries range are =
    let client = of_side Client in
    let server = of_side Server in
    (record { client = client.0; server = server.0 }, (client.1, server.1))
  where
    of_side : (role : Role) → (line : Option RefusedLine) × IsRefusedLine role limits entries line
    of_side role =
        let found = has_verdict role limits range (sent role entries) (sent_bytes role lines entries are) in
        some_line role limits entries found.frames found.verdict found.is

-- ---- one more entry

-- a line that is kept stays
pub refused_stays : (role : Role) (limits : Limits) (given : List Entry) (entry : Entry) (line : RefusedLine) → HasRefusedLine role limits given line → HasRefusedLine role limits (given ++ entry ∷ []) line
refused_stays role limits given entry line is = record {
  frames = is.frames;
  refusal = is.refusal;
  refused = subst (λ (bs : List ℕ). IsVerdict role limits bs is.frames (Refused is.refusal)) (sym (sent-push role given entry))
      (stays_refused role limits is.frames (sent role given) (bytes_in role entry) is.refusal.offset is.refusal.reason is.refused);
  before = is.before;
  bytes = is.bytes;
  after = is.after ++ entry ∷ [];
  whole = ap (λ (es : List Entry). es ++ entry ∷ []) is.whole ∙ append_assoc is.before (Bytes role is.bytes ∷ is.after) (entry ∷ []);
  kept = is.kept;
}

-- an entry without bytes changes nothing
pub refused_kept : (role : Role) (limits : Limits) (given : List Entry) (entry : Entry) (known : Option RefusedLine) → bytes_in role entry ≡ [] → IsRefusedLine role limits given known → IsRefusedLine role limits (given ++ entry ∷ []) known
refused_kept role limits given entry (Some line) none is = refused_stays role limits given entry line is
refused_kept role limits given entry None none is =
    subst (IsUnrefused role limits) (sym (sent-push role given entry ∙ ap (λ (bs : List ℕ). sent role given ++ bs) none ∙ append-nil (sent role given))) is

-- the offending byte of a stream that wasn't refused is one of the last entry's
module _ (role : Role) (limits : Limits) (given : List Entry) (bytes : List ℕ) (fs : List Frame) (refusal : Refusal) (unrefused : IsUnrefused role limits (sent role given))
    (is : IsVerdict role limits (sent role (given ++ Bytes role bytes ∷ [])) fs (Refused refusal)) where
  joined : sent role (given ++ Bytes role bytes ∷ []) ≡ sent role given ++ bytes
  joined = sent-push role given (Bytes role bytes) ∙ ap (λ (bs : List ℕ). sent role given ++ bs) (own_bytes role bytes)

  refused_longer : IsVerdict role limits (sent role given ++ bytes) fs (Refused refusal)
  refused_longer = subst (λ (bs : List ℕ). IsVerdict role limits bs fs (Refused refusal)) joined is

  place_less : refusal.offset < length (sent role given) + length bytes
  place_less =
      let within = place_within role limits fs (sent role given ++ bytes) refusal.offset refusal.reason refused_longer.is_evident in
      omega (arith, within, length-append (sent role given) bytes)

  place_least : length (sent role given) ≤ refusal.offset
  place_least =
      elim (cases_lt refusal.offset (length (sent role given))) [
        | inl earlier ↦ absurd (unrefused fs refusal.offset refusal.reason (refused_alike role limits fs (sent role given ++ bytes) (sent role given) refusal.offset refusal.reason
            (sym (take-append-le (refusal.offset + 1) (sent role given) bytes (omega (arith, earlier)))) refused_longer))
        | inr later ↦ later
      ]

  pub refused_new : (line : Option RefusedLine) → IsKeptOf (length (sent role given)) bytes refusal.offset line → IsRefusedLine role limits (given ++ Bytes role bytes ∷ []) line
  refused_new line kept = grind (arith, place_least, place_less)

-- no byte is offending
pub none_offending : (role : Role) (limits : Limits) → IsUnrefused role limits []
none_offending role limits fs offset reason is = let within = place_within role limits fs [] offset reason is.is_evident in absurd (omega (arith, within))
