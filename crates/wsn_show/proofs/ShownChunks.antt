-- What is shown of a chunk, call by call.
use Rattle.std.proofs.Common.{◌≡◌, ℕ, ◌+◌, ◌^◌, ◌<◌, ◌≤◌, None, Some, List, [], ◌++◌, length, take, drop, inl, inr, refl, sym, ap, ◌∙◌, subst, append-nil, append_assoc, arith, length-append, length-drop, take-append-drop}
use Rattle.std.proofs.Math.Seq.{take-add}
use Rattle.std.proofs.lemmas.List.{drop_all, length-take-le}
use Rattle.wsn_io.specs.Transfer.{Outgoing}
use Rattle.wsn_wire.specs.declared.endpoint.Role.{Role}
use Rattle.wsn_rules.specs.declared.verdict.Refusal.{Refusal}
use Rattle.wsn_rules.specs.Limits.{Limits}
use Rattle.wsn_rules.specs.ShownStream.{Shown}
use Rattle.wsn_scan.specs.declared.scan.Scan.{Scan}
use Rattle.wsn_scan.specs.Positions.{Position, BetweenFrames, InFrame}
use Rattle.wsn_scan.specs.Scans.{HasScanned, refusal_in}
use Rattle.wsn_scan.proofs.Unrefused.{unrefused_first}
use Rattle.wsn_print.specs.declared.style.Style.{Style}
use Rattle.wsn_show.specs.declared.entry_context.EntryContext.{EntryContext}
use Rattle.wsn_show.specs.declared.stream_parts.StreamParts.{StreamParts}
use Rattle.wsn_show.specs.declared.first_bytes.FirstBytes.{FirstBytes}
use Rattle.wsn_show.specs.HeldParts.{HasFirst}
use Rattle.wsn_show.specs.StreamParts.{KeepsStream, rest_at}
use Rattle.wsn_show.specs.ShownItems.{Prints}
use Rattle.wsn_show.specs.ShownSoFar.{items_in, HasShownFrames, HasShownRefusal, HasShown, ShowsMore, ShowsFrames}
use Rattle.wsn_show.proofs.PrintedItems.{prints_nothing, prints_both}
use Rattle.wsn_scan.proofs.FollowedScans.{few, rest_few}
use Rattle.wsn_show.proofs.FramesSoFar.{items_in-append, nothing_so_far}

-- ---- no bytes

pub nothing_shown : (style : Style) (role : Role) (limits : Limits) (scan : Scan) (parts : StreamParts) → HasScanned role limits scan [] [] [] BetweenFrames → KeepsStream style.view parts [] BetweenFrames [] → HasShown style role limits scan parts [] []
nothing_shown style role limits scan parts scanned keeps =
    let none = unrefused_first role limits scan [] (record { frames = []; since = []; position = BetweenFrames; has_scanned = scanned; heads_are = refl }) in
    inl (record {
      done = [];
      at = BetweenFrames;
      rest = [];
      followed = record { has_scanned = scanned; unrefused = none };
      keeps = keeps;
      is = nothing_so_far style.detail;
    })

-- ---- calls one after another

module _ (role : Role) (limits : Limits) (scan : Scan) (parts : StreamParts) (context : EntryContext) (old new : Outgoing) (came : List ℕ) (shown : List Shown) where
  pub unrefused_more : ShowsMore role limits scan parts context old new came shown → refusal_in scan ≡ None → ShowsFrames role limits scan parts context old new came shown
  unrefused_more more none =
      elim more.has [
        | inl frames ↦ record { extra = more.extra; frames = frames; printed = more.printed }
        | inr refusal ↦ let both : Some refusal.refusal ≡ None = sym refusal.reported ∙ none in absurd cc
      ]

  pub frames_more : ShowsFrames role limits scan parts context old new came shown → ShowsMore role limits scan parts context old new came shown
  frames_more more = record { extra = more.extra; has = inl more.frames; printed = more.printed }

  pub same_frames_shown : HasShownFrames context.style role limits scan parts came shown → ShowsFrames role limits scan parts context old old came shown
  same_frames_shown frames = record { extra = []; frames = subst (HasShownFrames context.style role limits scan parts came) (sym (append-nil shown)) frames; printed = prints_nothing context old }

pub goes_on : (role : Role) (limits : Limits) (mid new : Scan) (mid_parts new_parts : StreamParts) (context : EntryContext) (before between after : Outgoing) (came chunk share : List ℕ) (at n : ℕ) (shown : List Shown) → share ≡ drop at chunk
    → ShowsFrames role limits mid mid_parts context before between (came ++ take at chunk) shown
    → ((so_far : List Shown) → HasShownFrames context.style role limits mid mid_parts (came ++ take at chunk) so_far → ShowsMore role limits new new_parts context between after ((came ++ take at chunk) ++ take n share) so_far)
    → ShowsMore role limits new new_parts context before after (came ++ take (at + n) chunk) shown
goes_on role limits mid new mid_parts new_parts context before between after came chunk share at n shown is first step =
    let more = step (shown ++ first.extra) first.frames in
    let joined : (came ++ take at chunk) ++ take n share ≡ came ++ take (at + n) chunk =
    append_assoc came (take at chunk) (take n share) ∙ ap (λ (bs : List ℕ). came ++ (take at chunk ++ take n bs)) is ∙ ap (λ (bs : List ℕ). came ++ bs) (sym (take-add at n chunk)) in
    let all : (shown ++ first.extra) ++ more.extra ≡ shown ++ (first.extra ++ more.extra) = append_assoc shown first.extra more.extra in
    subst (λ (bs : List ℕ). ShowsMore role limits new new_parts context before after bs shown) joined
    (let both : ShowsMore role limits new new_parts context before after ((came ++ take at chunk) ++ take n share) shown = record {
      extra = first.extra ++ more.extra;
      has = subst (HasShown context.style role limits new new_parts ((came ++ take at chunk) ++ take n share)) all more.has;
      printed = subst (Prints context before after) (sym (items_in-append first.extra more.extra)) (prints_both context before between after (items_in first.extra) (items_in more.extra) first.printed more.printed);
    } in both)

-- ---- bytes that aren't read

-- What is kept, with other first bytes.
abbrev pub with_first : StreamParts → FirstBytes → StreamParts
with_first parts first = record parts { rest = first }

-- The first bytes of more bytes.
abbrev pub AddsTo : FirstBytes → FirstBytes → List ℕ → Type 0
AddsTo old new more = (all : List ℕ) → length all + length more < 2 ^ 64 → HasFirst old all → HasFirst new (all ++ more)

module _ (style : Style) (role : Role) (limits : Limits) (scan : Scan) (parts : StreamParts) (first : FirstBytes) (came more : List ℕ) (shown : List Shown) (adds : AddsTo parts.rest first more) (small : length came + length more < 2 ^ 64) where
  pub refused_longer : HasShownRefusal style.detail role limits scan parts came shown → HasShownRefusal style.detail role limits scan (with_first parts first) (came ++ more) shown
  refused_longer r =
      let size : length came ≡ length r.read + length r.unread = ap (λ (bs : List ℕ). length bs) r.whole ∙ length-append r.read r.unread in
      record {
        done = r.done;
        refusal = r.refusal;
        read = r.read;
        unread = r.unread ++ more;
        heads = r.heads;
        whole = ap (λ (bs : List ℕ). bs ++ more) r.whole ∙ append_assoc r.read r.unread more;
        scanned = r.scanned;
        reported = r.reported;
        refused = r.refused;
        offset = r.offset;
        first = adds r.unread (omega (arith, size, small)) r.first;
        of_frames = r.of_frames;
        are_of_frames = r.are_of_frames;
        of_refusal = r.of_refusal;
        is_of_refusal = r.is_of_refusal;
        is = r.is;
      }

  same_shown : more ≡ [] → HasShownFrames style role limits scan parts came shown → HasShown style role limits scan (with_first parts first) (came ++ more) shown
  same_shown none frames =
      let own = frames.keeps.frame in
      let held = rest_at frames.at frames.rest in
      let there : HasShownFrames style role limits scan (with_first parts first) came shown = record {
        done = frames.done;
        at = frames.at;
        rest = frames.rest;
        followed = frames.followed;
        keeps = record {
          message = frames.keeps.message;
          joined = frames.keeps.joined;
          frame = record {
            offset = own.offset;
            size = own.size;
            head = own.head;
            begun = subst (HasFirst first) (ap (λ (bs : List ℕ). held ++ bs) none ∙ append-nil held) (adds held (few_held frames.at) own.begun);
            last = own.last;
          };
        };
        is = frames.is;
      } in
      subst (λ (bs : List ℕ). HasShown style role limits scan (with_first parts first) bs shown) (sym (ap (λ (bs : List ℕ). came ++ bs) none ∙ append-nil came)) (inl there)
    where
      few_held : (p : Position) → length (rest_at p frames.rest) + length more < 2 ^ 64
      few_held BetweenFrames =
          let size = rest_few role limits scan came frames.done frames.at frames.rest frames.followed in
          let most = few role limits scan came frames.done frames.at frames.rest frames.followed in
          omega (arith, size, most, small, ap (λ (bs : List ℕ). length bs) none)
      few_held (InFrame info payload) = omega (arith, small)

  pub all_longer : (refusal_in scan ≡ None → more ≡ []) → HasShown style role limits scan parts came shown → HasShown style role limits scan (with_first parts first) (came ++ more) shown
  all_longer none (inl frames) = same_shown (none frames.followed.unrefused) frames
  all_longer none (inr refusal) = inr (refused_longer refusal)

-- After a refusal nothing is shown of more bytes.
pub shows_none : (role : Role) (limits : Limits) (scan : Scan) (parts : StreamParts) (first : FirstBytes) (context : EntryContext) (old : Outgoing) (came more : List ℕ) (shown : List Shown) (refusal : Refusal) → AddsTo parts.rest first more
    → length came + length more < 2 ^ 64 → refusal_in scan ≡ Some refusal → HasShown context.style role limits scan parts came shown → ShowsMore role limits scan (with_first parts first) context old old (came ++ more) shown
shows_none role limits scan parts first context old came more shown refusal adds small is has = record {
  extra = [];
  has = subst (HasShown context.style role limits scan (with_first parts first) (came ++ more)) (sym (append-nil shown))
      (all_longer context.style role limits scan parts first came more shown adds small (λ none. let both : Some refusal ≡ None = sym is ∙ none in cc) has);
  printed = prints_nothing context old;
}

-- The bytes that were read, and then those that weren't.
pub shows_rest : (role : Role) (limits : Limits) (scan : Scan) (parts : StreamParts) (first : FirstBytes) (context : EntryContext) (old new : Outgoing) (came chunk left : List ℕ) (read : ℕ) (shown : List Shown) → AddsTo parts.rest first left → left ≡ drop read chunk
    → (refusal_in scan ≡ None → read ≡ length chunk) → read ≤ length chunk → length came + length chunk < 2 ^ 64 → ShowsMore role limits scan parts context old new (came ++ take read chunk) shown
    → ShowsMore role limits scan (with_first parts first) context old new (came ++ chunk) shown
shows_rest role limits scan parts first context old new came chunk left read shown adds is all within small s =
    let size : length (came ++ take read chunk) ≡ length came + length (take read chunk) = length-append came (take read chunk) in
    let whole : (came ++ take read chunk) ++ left ≡ came ++ chunk = append_assoc came (take read chunk) left ∙ ap (λ (bs : List ℕ). came ++ (take read chunk ++ bs)) is ∙ ap (λ (bs : List ℕ). came ++ bs) (take-append-drop read chunk) in
    let none : refusal_in scan ≡ None → left ≡ [] = λ unrefused. let equal = all unrefused in is ∙ drop_all read chunk (omega (arith, equal)) in
    let few : length (came ++ take read chunk) + length left < 2 ^ 64 = omega (arith, size, length-take-le read chunk within, ap (λ (bs : List ℕ). length bs) is, length-drop read chunk, small, within) in
    record {
      extra = s.extra;
      has = subst (λ (bs : List ℕ). HasShown context.style role limits scan (with_first parts first) bs (shown ++ s.extra)) whole
          (all_longer context.style role limits scan parts first (came ++ take read chunk) left (shown ++ s.extra) adds few none s.has);
      printed = s.printed;
    }

pub frames_of : (style : Style) (role : Role) (limits : Limits) (scan : Scan) (parts : StreamParts) (came : List ℕ) (shown : List Shown) → refusal_in scan ≡ None → HasShown style role limits scan parts came shown → HasShownFrames style role limits scan parts came shown
frames_of style role limits scan parts came shown none (inl frames) = frames
frames_of style role limits scan parts came shown none (inr refusal) = let both : Some refusal.refusal ≡ None = sym refusal.reported ∙ none in absurd cc
