-- The heads of the parts that a call takes, printed or held.
use Rattle.std.proofs.Common.{◌≡◌, ℕ, ◌+◌, ◌-◌, ◌<◌, ◌≤◌, Bool, true, false, if◌then◌else◌, Option, None, List, [], ◌∷◌, ◌++◌, length, drop, refl, sym, ap, ◌∙◌, subst, arith, append_assoc, append-nil, length-drop}
use borrow.Rule.Slice.PartMut.{mid_of, put_mid}
use Rattle.wsn_wire.specs.Frame.{IsBytes}
use Rattle.wsn_io.specs.Transfer.{Outgoing}
use Rattle.wsn_rules.specs.declared.head_info.HeadInfo.{HeadInfo}
use Rattle.wsn_rules.specs.declared.verdict.Refusal.{Refusal}
use Rattle.wsn_print.specs.declared.format.Format.{Format}
use Rattle.wsn_print.specs.Formats.{head_text, heads_text}
use Rattle.wsn_scan.specs.declared.part.Part.{Part}
use Rattle.wsn_scan.specs.declared.part.Taken.{Taken}
use Rattle.wsn_scan.specs.declared.part.Taken.TheVariants as taken
use Rattle.wsn_scan.specs.declared.scan.Scan.{Scan}
use Rattle.wsn_scan.specs.Scans.{AdvancesFrom, room_of, refusal_in}
use Rattle.wsn_scan.specs.Feeding.{ConsumesPrefix, IsRunning, heads_in}
use Rattle.wsn_parts.specs.Listing.{PrintsMore, PrintsHeld, ListsMore, IsListedChunk}
use Rattle.wsn_scan.proofs.FedChunks.{IsFedTo, bytes_after, share_is, fed_further, takes_further}
use Rattle.wsn_scan.proofs.FoundHeads.{takes_by, takes_on, takes_some, runs_on}
use Rattle.wsn_parts.proofs.Printing.{prints_further, prints_rest}
use Rattle.wsn_io.proofs.PutTexts.{prints_nothing}

-- The scan has consumed the chunk up to this byte, and the heads that it took were printed or are held.
pub record IsListedTo (format : Format) (old scan : Scan) (before out : Outgoing) (chunk here lines : List ℕ) (at : ℕ) : Type 0 where
  pub fed : IsFedTo old scan chunk here at
  pub held : PrintsHeld before out (heads_text format fed.consumes.0) lines

-- ---- more heads

pub lists_none : (format : Format) (out : Outgoing) (lines : List ℕ) → ListsMore format out out lines lines []
lists_none format out lines first heads held = subst (λ (all : List HeadInfo). PrintsHeld first out (heads_text format all) lines) (sym (append-nil heads)) held

pub lists_one : (format : Format) (before after : Outgoing) (lines rest held : List ℕ) (head : HeadInfo) → PrintsHeld before after lines rest → held ≡ rest ++ head_text format head → ListsMore format before after lines held (head ∷ [])
lists_one format before after lines rest held head room_made added first heads so_far =
    subst (λ (text : List ℕ). PrintsHeld first after (heads_text format (heads ++ head ∷ [])) text) (sym added) (prints_further format first before after heads head lines rest so_far room_made)

pub lists_further : (format : Format) (before mid after : Outgoing) (lines held rest : List ℕ) (more next : List HeadInfo) → ListsMore format before mid lines held more → ListsMore format mid after held rest next
    → ListsMore format before after lines rest (more ++ next)
lists_further format before mid after lines held rest more next one two first heads so_far =
    subst (λ (all : List HeadInfo). PrintsHeld first after (heads_text format all) rest) (append_assoc heads more next) (two first (heads ++ more) (one first heads so_far))

-- ---- the head that a call finds

pub begun_head : (found : Taken) (part : Part) → found ≡ taken.Part → part.begins ≡ true → heads_in found part ≡ part.head ∷ []
begun_head found part is begins = ap (λ (f : Taken). heads_in f part) is ∙ ap (λ (b : Bool). if b then part.head ∷ [] else []) begins

pub none_begun : (found : Taken) (part : Part) → (found ≡ taken.Part → part.begins ≡ false) → heads_in found part ≡ []
none_begun taken.More part other = refl
none_begun taken.Part part other = ap (λ (b : Bool). if b then part.head ∷ [] else []) (other refl)
none_begun taken.Closed part other = refl
none_begun taken.Refused part other = refl

-- ---- one call more

module _ (format : Format) (old scan new : Scan) (before out : Outgoing) (chunk here after lines : List ℕ) (at n : ℕ) (found : Taken) (part : Part) (so_far : IsListedTo format old scan before out chunk here lines at)
    (advances : AdvancesFrom scan.stage scan new (mid_of at (length here - at) here) after n found part) where
  abbrev share : List ℕ
  share = mid_of at (length here - at) here

  is : share ≡ drop at chunk
  is = share_is at here ∙ so_far.fed.kept

  in_share : IsBytes share
  in_share = subst IsBytes (sym is) (bytes_after at chunk so_far.fed.in_bytes)

  module _ (fits : n ≤ length share) (same_size : length after ≡ length share) (kept : drop n after ≡ drop n share) (room : room_of new + n ≡ room_of scan) where
    further : IsFedTo old new chunk (put_mid at (length here - at) here after) (at + n)
    further = fed_further old scan new chunk here after at n so_far.fed fits same_size kept room (λ in_bytes. (heads_in found part, takes_by scan new share after n found part advances in_bytes))

    abbrev fed_on : IsFedTo old new chunk (put_mid at (length here - at) here after) (at + n)
    fed_on = record {
      in_bytes = further.in_bytes;
      within = further.within;
      size = further.size;
      kept = further.kept;
      room = further.room;
      consumes = (
        so_far.fed.consumes.0 ++ heads_in found part,
        takes_on old scan new chunk share after at n found part so_far.fed.consumes.0 so_far.fed.in_bytes is so_far.fed.consumes.1 advances,
      );
    }

    -- what was found is listed
    pub listed_on : (next : Outgoing) (rest : List ℕ) → ListsMore format out next lines rest (heads_in found part) → IsListedTo format old new before next chunk (put_mid at (length here - at) here after) rest (at + n)
    listed_on next rest lists = record { fed = fed_on; held = lists before so_far.fed.consumes.0 so_far.held }

    -- it consumes a byte, if the chunk has one
    pub falls : IsRunning old → (found ≡ taken.Refused → ⊥) → at < length here → length chunk - (at + n) < length chunk - at
    falls running other more =
        let size : length share ≡ length (drop at chunk) = ap (λ (bs : List ℕ). length bs) is in
        let some : 0 < length share = omega (arith, size, length-drop at chunk, so_far.fed.size, more) in
        let on = runs_on old scan chunk at so_far.fed.consumes.0 running so_far.fed.consumes.1 in
        let one = takes_some scan new share after n found part advances in_share on other some in
        omega (arith, one, so_far.fed.size, more)

-- ---- frames more

-- a run of frames, and the lines of their heads
pub listed_run : (format : Format) (old scan new : Scan) (before out next : Outgoing) (chunk here after lines rest : List ℕ) (at n : ℕ) → IsListedTo format old scan before out chunk here lines at → n ≤ length (mid_of at (length here - at) here)
    → length after ≡ length (mid_of at (length here - at) here) → drop n after ≡ drop n (mid_of at (length here - at) here) → room_of new + n ≡ room_of scan
    → (IsBytes (mid_of at (length here - at) here) → (heads : List HeadInfo) × ConsumesPrefix scan new (mid_of at (length here - at) here) n heads × ListsMore format out next lines rest heads)
    → IsListedTo format old new before next chunk (put_mid at (length here - at) here after) rest (at + n)
listed_run format old scan new before out next chunk here after lines rest at n so_far fits same_size kept room run =
    let share = mid_of at (length here - at) here in
    let is : share ≡ drop at chunk = share_is at here ∙ so_far.fed.kept in
    let more = run (subst IsBytes (sym is) (bytes_after at chunk so_far.fed.in_bytes)) in
    let on = fed_further old scan new chunk here after at n so_far.fed fits same_size kept room (λ _. (more.0, more.1)) in
    record {
      fed = record {
        in_bytes = on.in_bytes;
        within = on.within;
        size = on.size;
        kept = on.kept;
        room = on.room;
        consumes = (so_far.fed.consumes.0 ++ more.0, takes_further old scan new chunk share at n so_far.fed.consumes.0 more.0 is so_far.fed.consumes.1 more.1);
      };
      held = more.2 before so_far.fed.consumes.0 so_far.held;
    }

-- ---- the end of the chunk

-- What the scan has consumed is all of the chunk, or it has refused; and what was held is printed.
pub listed_chunk : (format : Format) (old new : Scan) (before out after : Outgoing) (chunk here lines : List ℕ) (at : ℕ) (refusal : Option Refusal) → IsListedTo format old new before out chunk here lines at
    → PrintsMore out after lines → before.failed ≡ false → (refusal ≡ None → at ≡ length chunk) → refusal ≡ refusal_in new → IsListedChunk format old new before after chunk refusal
listed_chunk format old new before out after chunk here lines at refusal so_far printed writable all answered = record {
  fed = record {
    count = at;
    within = so_far.fed.within;
    room = so_far.fed.room;
    heads = so_far.fed.consumes.0;
    consumes = so_far.fed.consumes.1;
    all = all;
    answered = answered;
  };
  printed = prints_rest before out after (heads_text format so_far.fed.consumes.0) lines so_far.held printed before [] (prints_nothing before writable);
}
