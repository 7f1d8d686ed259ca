-- The heads of the frames that were taken, after a call: those before it, and the one that it finds.
use Rattle.std.proofs.Common.{◌≡◌, ℕ, ◌+◌, ◌<◌, None, Bool, true, false, inl, inr, if◌then◌else◌, List, [], ◌∷◌, ◌++◌, length, take, drop, refl, subst, sym, ap, ◌∙◌, arith, append-nil}
use Rattle.std.specs.Prelude.{IsSome}
use Rattle.std.proofs.lemmas.Bool.{cases_Bool}
use Rattle.wsn_wire.specs.Frame.{Frame, IsBytes}
use Rattle.wsn_rules.specs.declared.head_info.HeadInfo.{HeadInfo}
use Rattle.wsn_rules.specs.Heads.{heads_of}
use Rattle.wsn_scan.specs.declared.part.Part.{Part}
use Rattle.wsn_scan.specs.declared.part.Taken.{Taken}
use Rattle.wsn_scan.specs.declared.part.Taken.TheVariants as taken
use Rattle.wsn_scan.specs.declared.scan.Scan.{Scan}
use Rattle.wsn_scan.specs.Positions.{Position, BetweenFrames, InFrame, begun_at}
use Rattle.wsn_scan.specs.Parts.{ContinuesFrame, IsPartAt, Finds, Consumes}
use Rattle.wsn_scan.specs.Scans.{AdvancesFrom, refusal_in}
use Rattle.wsn_scan.specs.Feeding.{ConsumesPrefix, IsRunning, heads_in}
use Rattle.wsn_scan.proofs.FedChunks.{takes_further, bytes_after}
use Rattle.wsn_scan.proofs.HeadsReported.{heads_push}

-- ---- the heads after a call

-- after a part, its head is the last
pub heads_after : (fs : List Frame) (before : List ℕ) (part : Part) (payload : List ℕ) (frames : List Frame) (position : Position) → ContinuesFrame fs before part payload frames position
    → heads_of frames ++ begun_at position ≡ heads_of fs ++ part.head ∷ []
heads_after fs before part payload frames position goes_on =
    elim (cases_Bool part.ends) [
      | inl done ↦
          let ended = goes_on.ends done in
          (λ i. heads_of (ended.3 i) ++ begun_at (ended.4 i)) ∙ append-nil (heads_of (fs ++ ended.0 ∷ [])) ∙ heads_push fs ended.0
          ∙ ap (λ (head : HeadInfo). heads_of fs ++ head ∷ []) (sym ended.1)
      | inr unended ↦ let within = goes_on.within unended in λ i. heads_of (within.0 i) ++ begun_at (within.1 i)
    ]

-- before it, there was no head of its frame if it begins one
heads_before : (fs : List Frame) (at : Position) (part : Part) (before : List ℕ) → IsPartAt at part before → (heads_of fs ++ begun_at at) ++ heads_in taken.Part part ≡ heads_of fs ++ part.head ∷ []
heads_before fs BetweenFrames part before is =
    ap (λ (b : Bool). (heads_of fs ++ []) ++ (if b then part.head ∷ [] else [])) is.0 ∙ ap (λ (heads : List HeadInfo). heads ++ part.head ∷ []) (append-nil (heads_of fs))
heads_before fs (InFrame head payload) part before is =
    ap (λ (b : Bool). (heads_of fs ++ head ∷ []) ++ (if b then part.head ∷ [] else [])) is.0 ∙ append-nil (heads_of fs ++ head ∷ []) ∙ ap (λ (h : HeadInfo). heads_of fs ++ h ∷ []) (sym is.1)

pub heads_found : (found : Taken) (part : Part) (payload : List ℕ) (fs : List Frame) (at : Position) (frames : List Frame) (position : Position) → Finds found part payload fs at frames position
    → heads_of frames ++ begun_at position ≡ (heads_of fs ++ begun_at at) ++ heads_in found part
heads_found taken.More part payload fs at frames position is = (λ i. heads_of (is.0 i) ++ begun_at (is.1 i)) ∙ sym (append-nil (heads_of fs ++ begun_at at))
heads_found taken.Part part payload fs at frames position is = heads_after fs is.before part payload frames position is.goes_on ∙ sym (heads_before fs at part is.before is.is_at)
heads_found taken.Closed part payload fs at frames position is = (λ i. heads_of (is.0 i) ++ begun_at (is.1 i)) ∙ sym (append-nil (heads_of fs ++ begun_at at))
heads_found taken.Refused part payload fs at frames position is = (λ i. heads_of (is.0 i) ++ begun_at (is.1 i)) ∙ sym (append-nil (heads_of fs ++ begun_at at))

-- ---- what a call consumes

module _ (old new : Scan) (chunk after : List ℕ) (n : ℕ) (found : Taken) (part : Part) (advances : AdvancesFrom old.stage old new chunk after n found part) (in_bytes : IsBytes chunk) where
  pub takes_by : ConsumesPrefix old new chunk n (heads_in found part)
  takes_by role limits bytes heads came =
      let reached = (advances role limits bytes came.since came.frames came.position in_bytes came.has_scanned).0 in
      record {
        frames = reached.frames;
        since = reached.since;
        position = reached.position;
        has_scanned = reached.has_scanned;
        heads_are = ap (λ (hs : List HeadInfo). hs ++ heads_in found part) came.heads_are
            ∙ sym (heads_found found part _ came.frames came.position reached.frames reached.position reached.found);
      }

  -- unless it refuses, it consumes a byte
  pub takes_some : IsRunning old → (found ≡ taken.Refused → ⊥) → 0 < length chunk → 0 < n
  takes_some running other some =
      let came = running.taken in
      of found (advances running.role running.limits running.bytes came.since came.frames came.position in_bytes came.has_scanned).1 other
    where
      of : (f : Taken) → Consumes f part (length chunk) n → (f ≡ taken.Refused → ⊥) → 0 < n
      of taken.More is more = omega (arith, is, some)
      of taken.Part is more = is.0 some
      of taken.Closed is more = omega (arith, is, some)
      of taken.Refused is more = absurd (more refl)

-- after what was consumed of the chunk before
pub takes_on : (old mid new : Scan) (chunk share after : List ℕ) (at n : ℕ) (found : Taken) (part : Part) (more : List HeadInfo) → IsBytes chunk → share ≡ drop at chunk → ConsumesPrefix old mid chunk at more
    → AdvancesFrom mid.stage mid new share after n found part → ConsumesPrefix old new chunk (at + n) (more ++ heads_in found part)
takes_on old mid new chunk share after at n found part more in_bytes is consumes advances =
    takes_further old mid new chunk share at n more (heads_in found part) is consumes (takes_by mid new share after n found part advances (subst IsBytes (sym is) (bytes_after at chunk in_bytes)))

-- a scan that has consumed more has consumed something
pub runs_on : (old new : Scan) (chunk : List ℕ) (n : ℕ) (more : List HeadInfo) → IsRunning old → ConsumesPrefix old new chunk n more → IsRunning new
runs_on old new chunk n more running consumes = record {
  role = running.role;
  limits = running.limits;
  bytes = running.bytes ++ take n chunk;
  heads = running.heads ++ more;
  taken = consumes running.role running.limits running.bytes running.heads running.taken;
}

-- a refusal that was reported is one
pub none_refused : (scan : Scan) → IsSome (refusal_in scan) → refusal_in scan ≡ None → ⊥
none_refused scan some none = let both : false ≡ true = subst IsSome none some in absurd cc
