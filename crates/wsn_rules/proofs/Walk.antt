-- Two lists of lawful frames at the start of one input: they are equal, or one continues the other.
use Rattle.std.proofs.Common.{◌≡◌, ℕ, List, [], ◌∷◌, ◌++◌, ◌⊎◌, refl, sym, ap, ◌∙◌, inl, inr, append_assoc}
use Rattle.std.proofs.lemmas.List.Concat.{flat_map-append}
use Rattle.wsn_wire.specs.declared.endpoint.Role.{Role}
use Rattle.wsn_wire.specs.Frame.{Frame, frame_bytes, stream, IsEncodable}
use Rattle.wsn_wire.proofs.FrameLemmas.{frame_bytes_determine}
use Rattle.wsn_rules.specs.Limits.{Limits}
use Rattle.wsn_rules.specs.Lawful.{IsLawful}
use Rattle.wsn_rules.proofs.Prefixes.{cons_same}

-- Each frame can be encoded.
abbrev pub AreSpellable : List Frame → Type 0
AreSpellable fs = (before after : List Frame) (f : Frame) → fs ≡ before ++ f ∷ after → IsEncodable f

pub spellable_of_lawful : (role : Role) (limits : Limits) (fs : List Frame) → IsLawful role limits fs → AreSpellable fs
spellable_of_lawful role limits fs lawful before after f e = (lawful.each before after f e).frame.encoded.encodable

pub spellable_tail : (f : Frame) (fs : List Frame) → AreSpellable (f ∷ fs) → AreSpellable fs
spellable_tail f fs each before after g e = each (f ∷ before) after g (ap (λ (hs : List Frame). f ∷ hs) e)

pub stream-append : (fs gs : List Frame) → stream (fs ++ gs) ≡ stream fs ++ stream gs
stream-append fs gs = flat_map-append frame_bytes fs gs

pub stream_push : (fs : List Frame) (f : Frame) → stream (fs ++ f ∷ []) ≡ stream fs ++ frame_bytes f
stream_push fs f = stream-append fs (f ∷ []) ∙ ap (λ (bytes : List ℕ). stream fs ++ bytes) (append-nil (frame_bytes f))
  where
    append-nil : (xs : List ℕ) → xs ++ [] ≡ xs
    append-nil [] = refl
    append-nil (x ∷ xs) = ap (λ (ys : List ℕ). x ∷ ys) (append-nil xs)

-- gs continues fs, and r is the bytes of the continuation followed by s.
abbrev pub GoesOnWith : List Frame → List ℕ → List Frame → List ℕ → Type 0
GoesOnWith fs r gs s = (more : List Frame) × (gs ≡ fs ++ more) × (r ≡ stream more ++ s)

pub walk : (fs gs : List Frame) (r s : List ℕ) → AreSpellable fs → AreSpellable gs → stream fs ++ r ≡ stream gs ++ s → GoesOnWith fs r gs s ⊎ GoesOnWith gs s fs r
walk [] gs r s each_f each_g e = inl (gs, refl, e)
walk (f ∷ fs) [] r s each_f each_g e = inr (f ∷ fs, refl, sym e)
walk (f ∷ fs) (g ∷ gs) r s each_f each_g e =
    let same = sym (append_assoc (frame_bytes f) (stream fs) r) ∙ e ∙ append_assoc (frame_bytes g) (stream gs) s in
    let parts = frame_bytes_determine f g (stream fs ++ r) (stream gs ++ s) (each_f [] fs f refl) (each_g [] gs g refl) same in
    let rests = walk fs gs r s (spellable_tail f fs each_f) (spellable_tail g gs each_g) parts.1 in
    elim rests [
      | inl p ↦ inl (p.0, cons_same g f gs (fs ++ p.0) (sym parts.0) p.1, p.2)
      | inr p ↦ inr (p.0, cons_same f g fs (gs ++ p.0) parts.0 p.1, p.2)
    ]
