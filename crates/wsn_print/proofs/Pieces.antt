-- Pieces of a line that are written one after another, until a write fails.
use Rattle.std.proofs.Common.{◌≡◌, ℕ, suc, ◌+◌, ◌<◌, Result, Ok, Err, List, [], ◌∷◌, ◌++◌, length, take, drop, get_or, sym, ap, ◌∙◌, subst, drop-cons}
use Rattle.std.specs.Prelude.{IsErrAnd, IfOk, flat_map, false}
use Rattle.std.proofs.lemmas.List.{append-nil, take-append-drop, take_more}
use Rattle.std.proofs.lemmas.Grind.{flat_map-append}
use Rattle.wsn_io.specs.Transfer.{Outgoing, IsWritten, IsPartlyWritten}
use Rattle.wsn_io.specs.declared.stop.Stop.{Stop}
use Rattle.wsn_io.specs.declared.stop.Stop.TheVariants as stop
use Rattle.wsn_io.specs.Stops.{IsWrittenOrStops}
use Rattle.wsn_io.proofs.PutTexts.{put_both, put_more, put_no_more}

-- A piece stopped, so nothing after it is written.
pub stopped : (before after : Outgoing) (text more : List ℕ) (e : Stop) (result : Result (Unit {0}) Stop) → (e ≡ stop.Write) × IsPartlyWritten before after text → IsErrAnd result (λ other. other ≡ e) → IsWrittenOrStops before after (text ++ more) result
stopped before after text more e (Ok done) put is = absurd is
stopped before after text more e (Err other) put is = (is ∙ put.0, put_no_more before after text more put.1)

drop_at : (xs : List ℕ) (k x d : ℕ) → k < length xs → x ≡ get_or xs k d → drop k xs ≡ x ∷ drop (suc k) xs
drop_at xs k x d within is = drop-cons xs k d within ∙ ap (λ (y : ℕ). y ∷ drop (suc k) xs) (sym is)

text_at : (f : ℕ → List ℕ) (xs : List ℕ) (k x d : ℕ) → k < length xs → x ≡ get_or xs k d → flat_map f (take k xs) ++ (f x ++ flat_map f (drop (suc k) xs)) ≡ flat_map f xs
text_at f xs k x d within is =
    ap (λ (rest : List ℕ). flat_map f (take k xs) ++ flat_map f rest) (sym (drop_at xs k x d within is))
    ∙ sym (flat_map-append f (take k xs) (drop k xs))
    ∙ ap (flat_map f) (take-append-drop k xs)

-- The text of an element stopped, after those of the elements before it.
pub each_stopped : (f : ℕ → List ℕ) (xs : List ℕ) (k x d : ℕ) (before mid after : Outgoing) (e : Stop) (result : Result (Unit {0}) Stop) → k < length xs → x ≡ get_or xs k d
    → IsWritten before mid (flat_map f (take k xs)) → (e ≡ stop.Write) × IsPartlyWritten mid after (f x) → IsErrAnd result (λ other. other ≡ e) → IsWrittenOrStops before after (flat_map f xs) result
each_stopped f xs k x d before mid after e result within is written put is_e =
    let rest : List ℕ = flat_map f (drop (suc k) xs) in
    subst (λ (text : List ℕ). IsWrittenOrStops before after text result) (text_at f xs k x d within is)
    (put_more before mid after (flat_map f (take k xs)) (f x ++ rest) result written (stopped mid after (f x) rest e result put is_e))

-- The text of one more element.
pub one_more : (f : ℕ → List ℕ) (xs : List ℕ) (k x d : ℕ) → k < length xs → x ≡ get_or xs k d
    → flat_map f (take (k + 1) xs) ≡ flat_map f (take k xs) ++ f x
one_more f xs k x d within is =
    ap (flat_map f) (take_more xs k d within ∙ ap (λ (y : ℕ). take k xs ++ y ∷ []) (sym is)) ∙ flat_map-append f (take k xs) (x ∷ [])
    ∙ ap (λ (last : List ℕ). flat_map f (take k xs) ++ last) (append-nil (f x))

-- It is written.
pub each_written : (f : ℕ → List ℕ) (xs : List ℕ) (k x d : ℕ) (before mid after : Outgoing) → k < length xs → x ≡ get_or xs k d
    → IsWritten before mid (flat_map f (take k xs)) → IsWritten mid after (f x) → IsWritten before after (flat_map f (take (k + 1) xs))
each_written f xs k x d before mid after within is written put =
    subst (IsWritten before after) (sym (one_more f xs k x d within is)) (put_both before mid after (flat_map f (take k xs)) (f x) written put)

-- ---- a line of several pieces

pub first_stops : (before after : Outgoing) (a rest text : List ℕ) (e : Stop) (result : Result (Unit {0}) Stop) → a ++ rest ≡ text
    → (e ≡ stop.Write) × IsPartlyWritten before after a → IsErrAnd result (λ other. other ≡ e) → IsWrittenOrStops before after text result
first_stops before after a rest text e result whole put is =
    subst (λ (t : List ℕ). IsWrittenOrStops before after t result) whole (stopped before after a rest e result put is)

pub second_stops : (before mid after : Outgoing) (a b rest text : List ℕ) (e : Stop) (result : Result (Unit {0}) Stop) → a ++ (b ++ rest) ≡ text
    → IsWritten before mid a → (e ≡ stop.Write) × IsPartlyWritten mid after b → IsErrAnd result (λ other. other ≡ e) → IsWrittenOrStops before after text result
second_stops before mid after a b rest text e result whole one put is =
    subst (λ (t : List ℕ). IsWrittenOrStops before after t result) whole
    (put_more before mid after a (b ++ rest) result one (stopped mid after b rest e result put is))

pub third_stops : (before m1 m2 after : Outgoing) (a b c rest text : List ℕ) (e : Stop) (result : Result (Unit {0}) Stop) → a ++ (b ++ (c ++ rest)) ≡ text
    → IsWritten before m1 a → IsWritten m1 m2 b → (e ≡ stop.Write) × IsPartlyWritten m2 after c → IsErrAnd result (λ other. other ≡ e) → IsWrittenOrStops before after text result
third_stops before m1 m2 after a b c rest text e result whole one two put is =
    subst (λ (t : List ℕ). IsWrittenOrStops before after t result) whole
    (put_more before m1 after a (b ++ (c ++ rest)) result one (put_more m1 m2 after b (c ++ rest) result two (stopped m2 after c rest e result put is)))

pub fourth_stops : (before m1 m2 m3 after : Outgoing) (a b c d rest text : List ℕ) (e : Stop) (result : Result (Unit {0}) Stop) → a ++ (b ++ (c ++ (d ++ rest))) ≡ text
    → IsWritten before m1 a → IsWritten m1 m2 b → IsWritten m2 m3 c → (e ≡ stop.Write) × IsPartlyWritten m3 after d → IsErrAnd result (λ other. other ≡ e) → IsWrittenOrStops before after text result
fourth_stops before m1 m2 m3 after a b c d rest text e result whole one two three put is =
    subst (λ (t : List ℕ). IsWrittenOrStops before after t result) whole
    (put_more before m1 after a (b ++ (c ++ (d ++ rest))) result one (put_more m1 m2 after b (c ++ (d ++ rest)) result two (put_more m2 m3 after c (d ++ rest) result three (stopped m3 after d rest e result put is))))

pub two_pieces : (before mid after : Outgoing) (a b text : List ℕ) (result : Result (Unit {0}) Stop) → a ++ b ≡ text
    → IsWritten before mid a → IsWrittenOrStops mid after b result → IsWrittenOrStops before after text result
two_pieces before mid after a b text result whole one two =
    subst (λ (t : List ℕ). IsWrittenOrStops before after t result) whole (put_more before mid after a b result one two)

pub three_pieces : (before m1 m2 after : Outgoing) (a b c text : List ℕ) (result : Result (Unit {0}) Stop) → a ++ (b ++ c) ≡ text
    → IsWritten before m1 a → IsWritten m1 m2 b → IsWrittenOrStops m2 after c result → IsWrittenOrStops before after text result
three_pieces before m1 m2 after a b c text result whole one two three =
    subst (λ (t : List ℕ). IsWrittenOrStops before after t result) whole
    (put_more before m1 after a (b ++ c) result one (put_more m1 m2 after b c result two three))

pub four_pieces : (before m1 m2 m3 after : Outgoing) (a b c d text : List ℕ) (result : Result (Unit {0}) Stop) → a ++ (b ++ (c ++ d)) ≡ text
    → IsWritten before m1 a → IsWritten m1 m2 b → IsWritten m2 m3 c → IsWrittenOrStops m3 after d result → IsWrittenOrStops before after text result
four_pieces before m1 m2 m3 after a b c d text result whole one two three four =
    subst (λ (t : List ℕ). IsWrittenOrStops before after t result) whole
    (put_more before m1 after a (b ++ (c ++ d)) result one (put_more m1 m2 after b (c ++ d) result two (put_more m2 m3 after c d result three four)))

pub five_pieces : (before m1 m2 m3 m4 after : Outgoing) (a b c d z text : List ℕ) (result : Result (Unit {0}) Stop) → a ++ (b ++ (c ++ (d ++ z))) ≡ text
    → IsWritten before m1 a → IsWritten m1 m2 b → IsWritten m2 m3 c → IsWritten m3 m4 d → IsWrittenOrStops m4 after z result → IsWrittenOrStops before after text result
five_pieces before m1 m2 m3 m4 after a b c d z text result whole one two three four five =
    subst (λ (t : List ℕ). IsWrittenOrStops before after t result) whole
    (put_more before m1 after a (b ++ (c ++ (d ++ z))) result one (put_more m1 m2 after b (c ++ (d ++ z)) result two (put_more m2 m3 after c (d ++ z) result three (put_more m3 m4 after d z result four five))))

-- A call that doesn't stop leaves an output that hasn't failed.
pub unfailed : (before after : Outgoing) (text : List ℕ) (result : Result (Unit {0}) Stop) → IsWrittenOrStops before after text result → IfOk result (λ done. after.failed ≡ false)
unfailed before after text (Ok done) put = put.0
unfailed before after text (Err e) put = tt
