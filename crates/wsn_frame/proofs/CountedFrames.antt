-- Counting one more frame.
use Rattle.std.proofs.Common.{◌≡◌, ℕ, ◌+◌, ◌≤◌, Bool, true, false, not, cond, ◌&&◌, List, [], ◌∷◌, ◌++◌, length, refl, sym, ap, ◌∙◌, arith, length-append}
use Rattle.std.specs.Prelude.{filter}
use Rattle.std.proofs.lemmas.List.Elements.{filter-append}
use Rattle.std.proofs.lemmas.List.Sums.{length-filter, count_by-le-length}
use Rattle.wsn_wire.specs.declared.opcode.Op.{Op}
use Rattle.wsn_wire.specs.Frame.{Frame, is_control}
use Rattle.wsn_frame.specs.declared.counts.Counts.{Counts}
use Rattle.wsn_rules.specs.Summary.{ends_message, is_ping, is_pong}
use Rattle.wsn_frame.specs.Counts.{AreCounts}

module _ {A : Type 0} (passes : A → Bool) where
  one : (b : Bool) (x : A) → length (cond b (x ∷ []) []) ≡ cond b 1 0
  one true x = refl
  one false x = refl

  count_push : (xs : List A) (x : A) → length (filter passes (xs ++ x ∷ [])) ≡ length (filter passes xs) + cond (passes x) 1 0
  count_push xs x =
      ap (λ (ys : List A). length ys) (filter-append passes xs (x ∷ [])) ∙ length-append (filter passes xs) (filter passes (x ∷ []))
      ∙ ap (λ (n : ℕ). length (filter passes xs) + n) (one (passes x) x)

  count_within : (xs : List A) → length (filter passes xs) ≤ length xs
  count_within xs = omega (arith, length-filter passes xs, count_by-le-length passes xs)

-- No count is greater than the number of frames.
pub record IsWithin (t : Counts) (fs : List Frame) : Type 0 where
  pub frames : t.frames ≤ length fs
  pub messages : t.messages ≤ length fs
  pub pings : t.pings ≤ length fs
  pub pongs : t.pongs ≤ length fs

pub within_frames : (t : Counts) (fs : List Frame) → AreCounts t fs → IsWithin t fs
within_frames t fs counts = record {
  frames = omega (arith, counts.frames);
  messages = omega (arith, counts.messages, count_within ends_message fs);
  pings = omega (arith, counts.pings, count_within (λ (f : Frame). is_ping f.op) fs);
  pongs = omega (arith, counts.pongs, count_within (λ (f : Frame). is_pong f.op) fs);
}

pub tallies_push : (t : Counts) (fs : List Frame) (f : Frame) (fin : Bool) (op : Op) (frames messages pings pongs : ℕ) → AreCounts t fs → f.fin ≡ fin → f.op ≡ op
    → frames ≡ t.frames + 1 → messages ≡ t.messages + cond (not (is_control op) && fin) 1 0 → pings ≡ t.pings + cond (is_ping op) 1 0 → pongs ≡ t.pongs + cond (is_pong op) 1 0
    → AreCounts (record { frames = frames; messages = messages; pings = pings; pongs = pongs }) (fs ++ f ∷ [])
tallies_push t fs f fin op frames messages pings pongs counts is_fin is_op frames_is messages_is pings_is pongs_is = record {
  frames = omega (arith, counts.frames, length-append fs (f ∷ []));
  messages = messages_is ∙ ap (λ (n : ℕ). n + cond (not (is_control op) && fin) 1 0) counts.messages
      ∙ ap (λ (o : Op). length (filter ends_message fs) + cond (not (is_control o) && fin) 1 0) (sym is_op)
      ∙ ap (λ (b : Bool). length (filter ends_message fs) + cond (not (is_control f.op) && b) 1 0) (sym is_fin)
      ∙ sym (count_push ends_message fs f);
  pings = pings_is ∙ ap (λ (n : ℕ). n + cond (is_ping op) 1 0) counts.pings
      ∙ ap (λ (o : Op). length (filter (λ (g : Frame). is_ping g.op) fs) + cond (is_ping o) 1 0) (sym is_op)
      ∙ sym (count_push (λ (g : Frame). is_ping g.op) fs f);
  pongs = pongs_is ∙ ap (λ (n : ℕ). n + cond (is_pong op) 1 0) counts.pongs
      ∙ ap (λ (o : Op). length (filter (λ (g : Frame). is_pong g.op) fs) + cond (is_pong o) 1 0) (sym is_op)
      ∙ sym (count_push (λ (g : Frame). is_pong g.op) fs f);
}
