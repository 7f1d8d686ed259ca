use Rattle.std.proofs.Common.{Option, None, Some, [], ◌∷◌, refl}
use Rattle.wsn_hint.specs.declared.hint.Hint.{Hint}
use Rattle.wsn_hint.specs.declared.hint.Hint.TheVariants.{ByteOrderMark, Pcap, PcapNg, Gzip, Tls}
use Rattle.wsn_hint.specs.Hints.{HintFits}
use Rattle.wsn_hint.proofs.FirstFits.{first_at, first_past}
use Rattle.wsn_hint.proofs.formats.marked_format_of.Goals as goal

pub returns-then-begins : goal.returns-then-begins
returns-then-begins c = λ limits.
    let fits = HintFits limits c.args.first.now in
    first_at fits ByteOrderMark (Pcap ∷ PcapNg ∷ Gzip ∷ Tls ∷ []) c.begins.result c.begins.ensures c.if-begins.true

pub returns-then-is_pcap : goal.returns-then-is_pcap
returns-then-is_pcap c = λ limits.
    let fits = HintFits limits c.args.first.now in
    let result : Option Hint = Some Pcap in
    first_past fits ByteOrderMark (Pcap ∷ PcapNg ∷ Gzip ∷ Tls ∷ []) result c.begins.result c.begins.ensures c.if-begins.false
    (first_at fits Pcap (PcapNg ∷ Gzip ∷ Tls ∷ []) c.is_pcap.result c.is_pcap.ensures c.if-is_pcap.true)

pub returns-then-begins-2 : goal.returns-then-begins-2
returns-then-begins-2 c = λ limits.
    let fits = HintFits limits c.args.first.now in
    let result : Option Hint = Some PcapNg in
    first_past fits ByteOrderMark (Pcap ∷ PcapNg ∷ Gzip ∷ Tls ∷ []) result c.begins.result c.begins.ensures c.if-begins.false
    (first_past fits Pcap (PcapNg ∷ Gzip ∷ Tls ∷ []) result c.is_pcap.result c.is_pcap.ensures c.if-is_pcap.false
    (first_at fits PcapNg (Gzip ∷ Tls ∷ []) c.begins-2.result c.begins-2.ensures c.if-begins-2.true))

pub returns-then-begins-3 : goal.returns-then-begins-3
returns-then-begins-3 c = λ limits.
    let fits = HintFits limits c.args.first.now in
    let result : Option Hint = Some Gzip in
    first_past fits ByteOrderMark (Pcap ∷ PcapNg ∷ Gzip ∷ Tls ∷ []) result c.begins.result c.begins.ensures c.if-begins.false
    (first_past fits Pcap (PcapNg ∷ Gzip ∷ Tls ∷ []) result c.is_pcap.result c.is_pcap.ensures c.if-is_pcap.false
    (first_past fits PcapNg (Gzip ∷ Tls ∷ []) result c.begins-2.result c.begins-2.ensures c.if-begins-2.false
    (first_at fits Gzip (Tls ∷ []) c.begins-3.result c.begins-3.ensures c.if-begins-3.true)))

pub returns-then-is_tls : goal.returns-then-is_tls
returns-then-is_tls c = λ limits.
    let fits = HintFits limits c.args.first.now in
    let result : Option Hint = Some Tls in
    first_past fits ByteOrderMark (Pcap ∷ PcapNg ∷ Gzip ∷ Tls ∷ []) result c.begins.result c.begins.ensures c.if-begins.false
    (first_past fits Pcap (PcapNg ∷ Gzip ∷ Tls ∷ []) result c.is_pcap.result c.is_pcap.ensures c.if-is_pcap.false
    (first_past fits PcapNg (Gzip ∷ Tls ∷ []) result c.begins-2.result c.begins-2.ensures c.if-begins-2.false
    (first_past fits Gzip (Tls ∷ []) result c.begins-3.result c.begins-3.ensures c.if-begins-3.false
    (first_at fits Tls [] c.is_tls.result c.is_tls.ensures c.if-is_tls.true))))

pub returns-else-is_tls : goal.returns-else-is_tls
returns-else-is_tls c = λ limits.
    let fits = HintFits limits c.args.first.now in
    let result : Option Hint = None in
    first_past fits ByteOrderMark (Pcap ∷ PcapNg ∷ Gzip ∷ Tls ∷ []) result c.begins.result c.begins.ensures c.if-begins.false
    (first_past fits Pcap (PcapNg ∷ Gzip ∷ Tls ∷ []) result c.is_pcap.result c.is_pcap.ensures c.if-is_pcap.false
    (first_past fits PcapNg (Gzip ∷ Tls ∷ []) result c.begins-2.result c.begins-2.ensures c.if-begins-2.false
    (first_past fits Gzip (Tls ∷ []) result c.begins-3.result c.begins-3.ensures c.if-begins-3.false
    (first_past fits Tls [] result c.is_tls.result c.is_tls.ensures c.if-is_tls.false refl))))
