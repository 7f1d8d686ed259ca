use Rattle.std.proofs.Common.{rules, arith, ◌≡◌, ℕ, ◌+◌, ◌<◌, ◌≤◌, List, [], ◌∷◌, ◌++◌, map, drop, get_or, length, ap, sym, ◌∙◌, append_assoc, string_bytes}
use Rattle.std.proofs.lemmas.List.{append-nil, drop-map, drop_more, length-map, map-append}
use Rattle.std.proofs.Math.ListN.{drop_of_length-le}
use Rattle.wsn_cli.proofs.closings.owned.Goals as goal

-- one word more is owned
one_more : {E S : Type 0} (now : E → List ℕ) (bytes : S → List ℕ) (words : List E) (owned after : List S) (at : ℕ) (d : E) (s : S) → at < length words
    → map now words ≡ map bytes owned ++ drop at (map now words) → after ≡ owned ++ s ∷ [] → bytes s ≡ now (get_or words at d)
    → map now words ≡ map bytes after ++ drop (at + 1) (map now words)
one_more {E} {S} now bytes words owned after at d s less so_far pushed is =
    let rest : List (List ℕ) = drop (at + 1) (map now words) in
    let step : drop at (map now words) ≡ now (get_or words at d) ∷ rest =
    drop-map now at words ∙ ap (map now) (drop_more words at d less) ∙ ap (λ (later : List (List ℕ)). now (get_or words at d) ∷ later) (sym (drop-map now (at + 1) words)) in
    so_far ∙ ap (λ (t : List (List ℕ)). map bytes owned ++ t) step
    ∙ sym (append_assoc (map bytes owned) (now (get_or words at d) ∷ []) rest)
    ∙ ap (λ (b : List ℕ). (map bytes owned ++ b ∷ []) ++ rest) (sym is)
    ∙ ap (λ (t : List (List ℕ)). t ++ rest) (sym (map-append bytes owned (s ∷ [])))
    ∙ ap (λ (t : List S). map bytes t ++ rest) (sym pushed)

-- all are owned
all_owned : {E S : Type 0} (now : E → List ℕ) (bytes : S → List ℕ) (words : List E) (owned : List S) (at : ℕ) → length words ≤ at
    → map now words ≡ map bytes owned ++ drop at (map now words) → map bytes owned ≡ map now words
all_owned now bytes words owned at past so_far =
    sym (so_far ∙ ap (λ (t : List (List ℕ)). map bytes owned ++ t) (drop_of_length-le (map now words) (omega (arith, past, length-map words now))) ∙ append-nil (map bytes owned))

pub loop-word-init : goal.loop-word-init
loop-word-init c = search rules

pub loop-word-preserved : goal.loop-word-preserved
loop-word-preserved c =
    one_more (λ word. word.now) string_bytes c.args.words.now c.loop-word.owned.items c.push.new.self.items c.loop-word.word-index _ c.in_ok-from_str.field-0 c.loop-word-test.true
    c.loop-word.invariant c.in_ok-push.ensures.items c.in_ok-from_str.ensures.ok

pub returns : goal.returns
returns c = all_owned (λ word. word.now) string_bytes c.args.words.now c.loop-word.owned.items c.loop-word.word-index c.loop-word-test.false c.loop-word.invariant
