use Rattle.std.proofs.Common.{◌≡◌, ℕ, List, [], ◌∷◌, refl, sym, ap, ◌∙◌, subst, Option, Some, map, Bor}
use Rattle.std.specs.Prelude.{codes, option_map}
use Rattle.std.specs.List.{list_any}
use Rattle.std.specs.Str.{bytes_eq}
use Rattle.wsn_cli.specs.Options.{AreLeftOut, has_word}
use Rattle.wsn_rules.specs.declared.without.Without.{Without}
use Rattle.wsn_cli.proofs.options.without_of.Goals as goal

-- whether a word is one of the words that references point to
has_text : (word : List ℕ) (words : List (Bor (List ℕ))) → list_any (λ it. bytes_eq it.now word) words ≡ has_word (map (λ it. it.now) words) word
has_text word [] = refl
has_text word (it ∷ words) = let rest = has_text word words in cc

pub returns : goal.returns
returns c =
    let kinds = c.in-Some.kinds.now in
    let ping : c.contains.result ≡ has_word (map (λ it. it.now) kinds) (codes "ping") = c.contains.ensures.value ∙ has_text (codes "ping") kinds in
    let pong : c.contains-2.result ≡ has_word (map (λ it. it.now) kinds) (codes "pong") = c.contains-2.ensures.value ∙ has_text (codes "pong") kinds in
    let close : c.contains-3.result ≡ has_word (map (λ it. it.now) kinds) (codes "close") = c.contains-3.ensures.value ∙ has_text (codes "close") kinds in
    let without : Without = record { ping = c.contains.result; pong = c.contains-2.result; close = c.contains-3.result } in
    let left : AreLeftOut (Some (map (λ it. it.now) kinds)) without = cc in
    subst (λ (words : Option (List (List ℕ))). AreLeftOut words without) (sym (ap (λ (o : Option (Bor (List (Bor (List ℕ))))). option_map (λ s. map (λ v. v.now) s.now) o) c.in-Some.is) ∙ c.get_strs.ensures) left
