-- The bytes that a refusal leaves unmasked in the chunk.
use Rattle.std.proofs.Common.{◌≡◌, ℕ, ◌≤◌, Option, List, [], ◌++◌, length, take, drop, refl, sym, ap, ◌∙◌, arith}
use Rattle.std.proofs.lemmas.List.{length-take-le, take-take, take_at}
use Rattle.wsn_frame.specs.Payloads.{unmasked_by}
use Rattle.wsn_frame.proofs.PayloadMore.{front_unmasked, take-unmasked_by, length-unmasked_by}
use Rattle.wsn_scan.specs.Positions.{Position, BetweenFrames, InFrame}
use Rattle.wsn_scan.specs.Parts.{unmasked_at}

-- Masked again from some byte on, the bytes before it stay unmasked.
pub front_stays : (key : Option (List ℕ)) (start count taken : ℕ) (chunk new more : List ℕ) → taken ≤ count → count ≤ length chunk → new ≡ unmasked_by key start (take count chunk)
    → take taken (take taken (new ++ drop count chunk) ++ more) ≡ unmasked_by key start (take taken chunk)
front_stays key start count taken chunk new more small within unmasked =
    let all = new ++ drop count chunk in
    let front : take taken all ≡ unmasked_by key start (take taken chunk) =
    sym (take-take taken count all small) ∙ ap (λ (bs : List ℕ). take taken bs) (front_unmasked key start count chunk new within unmasked)
    ∙ take-unmasked_by key start taken (take count chunk) (omega (arith, small, length-take-le count chunk within))
    ∙ ap (λ (bs : List ℕ). unmasked_by key start bs) (take-take taken count chunk small) in
    let size : length (take taken all) ≡ taken = ap (λ (bs : List ℕ). length bs) front ∙ length-unmasked_by key start (take taken chunk) ∙ length-take-le taken chunk (omega (arith, small, within)) in
    take_at (take taken all) more taken size ∙ front

none_unmasked : (key : Option (List ℕ)) (start : ℕ) → [] ≡ unmasked_by key start []
none_unmasked key start = take-unmasked_by key start 0 [] (omega arith)

pub unmasked_none : (at : Position) → [] ≡ unmasked_at at []
unmasked_none BetweenFrames = refl
unmasked_none (InFrame head payload) = none_unmasked head.key (length payload)

-- Between frames no byte is unmasked.
pub same_between : (at : Position) (bytes : List ℕ) → at ≡ BetweenFrames → bytes ≡ unmasked_at at bytes
same_between BetweenFrames bytes is = refl
same_between (InFrame head payload) bytes is = cc
