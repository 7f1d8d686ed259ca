use Rattle.std.proofs.Common.{◌≡◌, inl, inr, sym, ◌∙◌, refl}
use Rattle.wsn_wire.specs.declared.refusal.Reason.{Reason}
use Rattle.wsn_wire.specs.declared.refusal.Reason.TheVariants.{ReservedBits, MaskMissing, MaskPresent}
use Rattle.wsn_hint.proofs.streams.frame_hint.Goals as goal

missing_not_reserved : (reason : Reason) → reason ≡ MaskMissing → reason ≡ ReservedBits → ⊥
missing_not_reserved reason missing reserved = let both : MaskMissing ≡ ReservedBits = sym missing ∙ reserved in cc

present_not_reserved : (reason : Reason) → reason ≡ MaskPresent → reason ≡ ReservedBits → ⊥
present_not_reserved reason present reserved = let both : MaskPresent ≡ ReservedBits = sym present ∙ reserved in cc

present_not_missing : (reason : Reason) → reason ≡ MaskPresent → reason ≡ MaskMissing → ⊥
present_not_missing reason present missing = let both : MaskPresent ≡ MaskMissing = sym present ∙ missing in cc

pub returns-in-MaskMissing-clause-fits : goal.returns-in-MaskMissing-clause-fits
returns-in-MaskMissing-clause-fits c = c.if-is_lawful_start.ensures.unrefused refl

pub returns-in-MaskMissing-clause-first : goal.returns-in-MaskMissing-clause-first
returns-in-MaskMissing-clause-first c = λ some.
    inr (
      λ compressed. missing_not_reserved c.args.reason c.in-MaskMissing.is compressed.0,
      inl ((c.in-MaskMissing.is, c.if-is_lawful_start.ensures.unrefused refl), refl),
    )

pub returns-in-MaskPresent-clause-fits : goal.returns-in-MaskPresent-clause-fits
returns-in-MaskPresent-clause-fits c = c.if-is_lawful_start-2.ensures.unrefused refl

pub returns-in-MaskPresent-clause-first : goal.returns-in-MaskPresent-clause-first
returns-in-MaskPresent-clause-first c = λ some.
    let present = c.in-MaskPresent.is in
    inr (
      λ compressed. present_not_reserved c.args.reason present compressed.0,
      inr (
        λ server. present_not_missing c.args.reason present server.0,
        inl ((present, c.if-is_lawful_start-2.ensures.unrefused refl), refl),
      ),
    )
