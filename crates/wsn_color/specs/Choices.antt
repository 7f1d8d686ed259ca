-- When an answer is painted.
use Rattle.std.specs.Prelude.{ℕ, ◌==◌, ◌&&◌, Bool, true, false, not, List, ◌∷◌, length, codes}
use Rattle.std.specs.Char.{is_ascii_digit}
use Rattle.std.specs.Str.{bytes_eq}
use Rattle.wsn_color.specs.declared.choice.ColorChoice.{ColorChoice, TheVariants.{Auto, Always, Never}}
use Rattle.wsn_color.specs.declared.choice.Terminal.{Terminal}

-- Unless it is asked for or not, an answer is painted on a terminal that has colours, without NO_COLOR.
abbrev pub paints : ColorChoice → Terminal → Bool
paints Auto terminal = terminal.is_terminal && not terminal.has_no_color && terminal.has_colors
paints Always terminal = true
paints Never terminal = false

-- whether a name begins with `vt` and a digit
abbrev pub is_vt : List ℕ → Bool
is_vt (v ∷ t ∷ digit ∷ name) = v == 118 && t == 116 && is_ascii_digit digit
is_vt name = false

-- whether a terminal of this name has colours: one without a name, `dumb`, and `vt` and a digit have none
abbrev pub names_colors : List ℕ → Bool
names_colors name = not (length name == 0) && not (bytes_eq name (codes "dumb")) && not (is_vt name)
