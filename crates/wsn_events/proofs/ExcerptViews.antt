-- What is kept of an event is enough for each view.
use Rattle.std.proofs.Common.{◌≡◌, ℕ, ◌≤◌, min, true≢false, Result, List, [], ◌++◌, drop, take, length, refl, ap, ◌∙◌, arith}
use Rattle.std.specs.Prelude.{◌↔◌, IsOk, OnOk}
use Rattle.std.proofs.lemmas.List.{take_all, take_min}
use Rattle.wsn_wire.specs.declared.opcode.Op.{Op}
use Rattle.wsn_wire.specs.declared.opcode.Op.TheVariants.{Text, Binary, Close}
use Rattle.wsn_text.proofs.Prefixes.{text_begins}
use Rattle.wsn_text.proofs.Scalars.{text_is_utf8}
use Rattle.wsn_rules.specs.LawfulEvents.{IsLawfulEvent}
use Rattle.wsn_rules.specs.Meaning.{MeantEvent}
use Rattle.wsn_rules.proofs.MessageText.{reason_is_text}
use Rattle.wsn_print.specs.declared.shown.PlacedEvent.{PlacedEvent}
use Rattle.wsn_print.specs.ShownParts.{event_of, HoldsPayload, HasText, IsPlaced}
use Rattle.wsn_print.proofs.HeldParts.{first_held}
use Rattle.wsn_events.specs.declared.excerpt.Excerpt.{Excerpt}
use Rattle.wsn_events.specs.Excerpts.{IsExcerptOf}

-- what fits was appended
pub appended : {T E P Q : Type 0} (result : Result T E) → (IsOk result ↔ P) → P → OnOk result Q → Q
appended result fits p q = grind (arith, true≢false)

-- the first bytes of a payload
pub first_bytes : (held payload : List ℕ) (n : ℕ) → held ≡ [] → n ≡ min (length payload) 4096 → held ++ take n payload ≡ take 4096 payload
first_bytes held payload n none few =
    let same : n ≡ min 4096 (length payload) = omega (arith, few) in
    ap (λ (bs : List ℕ). bs ++ take n payload) none ∙ ap (λ (k : ℕ). take k payload) same ∙ take_min 4096 payload

holds : (n : ℕ) (op : Op) (payload held : List ℕ) → n ≤ 4096 → IsLawfulEvent (event_of op payload) → held ≡ take 4096 payload → HoldsPayload n (event_of op payload) held
holds n Text payload held few lawful is = first_held n payload held few is
holds n Binary payload held few lawful is = first_held n payload held few is
holds n _ payload held few lawful is = let short = lawful.size in is ∙ take_all 4096 payload (omega (arith, short))

text : (op : Op) (payload : List ℕ) → IsLawfulEvent (event_of op payload) → HasText (event_of op payload)
text Text payload lawful = text_begins payload (lawful.utf8 refl)
text Close payload lawful = (text_is_utf8 (drop 2 payload)).0 (reason_is_text payload (lawful.close refl))
text _ payload lawful = tt

pub is_placed : (n offset : ℕ) (event : MeantEvent) (frames : ℕ) (excerpt : Excerpt) (placed : PlacedEvent) → n ≤ 4096 → IsExcerptOf excerpt offset event frames → placed.offset ≡ excerpt.offset
    → placed.event.op ≡ excerpt.op → placed.event.bytes ≡ excerpt.bytes → placed.event.frames ≡ excerpt.frames → placed.event.held.now ≡ excerpt.held.items → IsPlaced n placed offset event frames
is_placed n offset event frames excerpt placed few is at op bytes count held = grind (arith, holds, text)
