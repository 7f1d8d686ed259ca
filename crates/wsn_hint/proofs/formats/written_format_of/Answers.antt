use Rattle.std.proofs.Common.{Option, None, Some, [], ◌∷◌, refl}
use Rattle.wsn_hint.specs.declared.hint.Hint.{Hint}
use Rattle.wsn_hint.specs.declared.hint.Hint.TheVariants.{HttpHead, HexDump, OffsetDump, Hexadecimal}
use Rattle.wsn_hint.specs.Hints.{HintFits}
use Rattle.wsn_hint.proofs.FirstFits.{first_at, first_past}
use Rattle.wsn_hint.proofs.formats.written_format_of.Goals as goal

pub returns-then-is_http_head : goal.returns-then-is_http_head
returns-then-is_http_head c = λ limits.
    let fits = HintFits limits c.args.first.now in
    first_at fits HttpHead (HexDump ∷ OffsetDump ∷ Hexadecimal ∷ []) c.is_http_head.result c.is_http_head.ensures c.if-is_http_head.true

pub returns-then-is_hex_dump : goal.returns-then-is_hex_dump
returns-then-is_hex_dump c = λ limits.
    let fits = HintFits limits c.args.first.now in
    let result : Option Hint = Some HexDump in
    first_past fits HttpHead (HexDump ∷ OffsetDump ∷ Hexadecimal ∷ []) result c.is_http_head.result c.is_http_head.ensures c.if-is_http_head.false
    (first_at fits HexDump (OffsetDump ∷ Hexadecimal ∷ []) c.is_hex_dump.result c.is_hex_dump.ensures c.if-is_hex_dump.true)

pub returns-then-is_offset_dump : goal.returns-then-is_offset_dump
returns-then-is_offset_dump c = λ limits.
    let fits = HintFits limits c.args.first.now in
    let result : Option Hint = Some OffsetDump in
    first_past fits HttpHead (HexDump ∷ OffsetDump ∷ Hexadecimal ∷ []) result c.is_http_head.result c.is_http_head.ensures c.if-is_http_head.false
    (first_past fits HexDump (OffsetDump ∷ Hexadecimal ∷ []) result c.is_hex_dump.result c.is_hex_dump.ensures c.if-is_hex_dump.false
    (first_at fits OffsetDump (Hexadecimal ∷ []) c.is_offset_dump.result c.is_offset_dump.ensures c.if-is_offset_dump.true))

pub returns-then-is_hexadecimal : goal.returns-then-is_hexadecimal
returns-then-is_hexadecimal c = λ limits.
    let fits = HintFits limits c.args.first.now in
    let result : Option Hint = Some Hexadecimal in
    first_past fits HttpHead (HexDump ∷ OffsetDump ∷ Hexadecimal ∷ []) result c.is_http_head.result c.is_http_head.ensures c.if-is_http_head.false
    (first_past fits HexDump (OffsetDump ∷ Hexadecimal ∷ []) result c.is_hex_dump.result c.is_hex_dump.ensures c.if-is_hex_dump.false
    (first_past fits OffsetDump (Hexadecimal ∷ []) result c.is_offset_dump.result c.is_offset_dump.ensures c.if-is_offset_dump.false
    (first_at fits Hexadecimal [] c.is_hexadecimal.result c.is_hexadecimal.ensures c.if-is_hexadecimal.true)))

pub returns-else-is_hexadecimal : goal.returns-else-is_hexadecimal
returns-else-is_hexadecimal c = λ limits.
    let fits = HintFits limits c.args.first.now in
    let result : Option Hint = None in
    first_past fits HttpHead (HexDump ∷ OffsetDump ∷ Hexadecimal ∷ []) result c.is_http_head.result c.is_http_head.ensures c.if-is_http_head.false
    (first_past fits HexDump (OffsetDump ∷ Hexadecimal ∷ []) result c.is_hex_dump.result c.is_hex_dump.ensures c.if-is_hex_dump.false
    (first_past fits OffsetDump (Hexadecimal ∷ []) result c.is_offset_dump.result c.is_offset_dump.ensures c.if-is_offset_dump.false
    (first_past fits Hexadecimal [] result c.is_hexadecimal.result c.is_hexadecimal.ensures c.if-is_hexadecimal.false refl)))
