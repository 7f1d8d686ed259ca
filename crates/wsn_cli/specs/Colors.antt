-- Which answers are coloured, and which entries are for people.
use Rattle.std.specs.Prelude.{◌≡◌, ◌↔◌, ◌&&◌, Bool, true, false, Option, None, Some, codes, option_and_then, if◌then◌else◌}
use Rattle.clap.specs.Words.{first_value}
use Rattle.clap.specs.declared.parser.matches.Found.{Found}
use Rattle.wsn_color.specs.Choices.{paints}
use Rattle.wsn_color.specs.declared.choice.ColorChoice.{ColorChoice, TheVariants.{Always, Never}}
use Rattle.wsn_color.specs.declared.choice.Terminal.{Terminal}
use Rattle.wsn_color.specs.declared.layout.Layout.{Layout}
use Rattle.wsn_color.specs.declared.layout.Layout.TheVariants as layouts
use Rattle.wsn_print.specs.declared.format.Format.{Format}
use Rattle.wsn_print.specs.declared.format.Format.TheVariants as formats
use Rattle.wsn_print.specs.declared.style.Style.{Style}
use Rattle.wsn_command.specs.declared.job.Job.{Job, TheVariants.{ShowStream, Show}}
use Rattle.wsn_cli.specs.Requests.{job_format}
use Rattle.wsn_cli.specs.declared.request.Asked.{Asked}
use Rattle.wsn_cli.specs.declared.request.EntryLayout.{EntryLayout, TheVariants.{Auto, Lines, People}}
use Rattle.wsn_cli.specs.declared.request.Request.{Request, TheVariants.{Run, Closings, Help}}

-- The choice of --color; without it, colours on a terminal.
pub record IsReadColor (found : Found) (color : ColorChoice) : Type 0 where
  pub always : color ≡ Always ↔ (first_value found (codes "color") ≡ Some (codes "always"))
  pub never : color ≡ Never ↔ (first_value found (codes "color") ≡ Some (codes "never"))

-- The choice of --layout; without it, entries for people on a terminal where they are coloured.
pub record IsReadLayout (found : Found) (entries : EntryLayout) : Type 0 where
  pub lines : entries ≡ Lines ↔ (first_value found (codes "layout") ≡ Some (codes "lines"))
  pub people : entries ≡ People ↔ (first_value found (codes "layout") ≡ Some (codes "people"))

-- ---- entries for people

-- Entries are for people if that is asked for. Without a choice they are on a terminal where answers are coloured: never
-- in a pipe or a file, even with colours.
abbrev pub is_for_people : EntryLayout → ColorChoice → Terminal → Bool
is_for_people Auto color terminal = terminal.is_terminal && paints color terminal
is_for_people Lines color terminal = false
is_for_people People color terminal = true

-- JSON stays JSON.
abbrev pub format_for_people : Format → Format
format_for_people formats.Json = formats.Json
format_for_people format = formats.People

abbrev pub style_for_people : Style → Style
style_for_people style = record style { format = format_for_people style.format }

-- `show` alone prints entries.
abbrev pub job_for_people : {A : Type 0} → Job A → Job A
job_for_people (ShowStream role limits style) = ShowStream role limits (style_for_people style)
job_for_people (Show limits style) = Show limits (style_for_people style)
job_for_people job = job

abbrev pub request_for_people : Request → Request
request_for_people (Run job file side) = Run (job_for_people job) file side
request_for_people request = request

-- What is asked for where the answer is printed there.
abbrev pub asked_on : Asked → Terminal → Asked
asked_on asked terminal =
    if is_for_people asked.entries asked.color terminal
    then record asked { request = request_for_people asked.request }
    else asked

-- ---- colours

-- JSON has no colours.
abbrev pub format_layout : Format → Option Layout
format_layout formats.Text = Some layouts.Answer
format_layout formats.People = Some layouts.People
format_layout formats.Json = None

-- A job has colours if its answer has a format.
abbrev pub job_layout : {A : Type 0} → Job A → Option Layout
job_layout job = option_and_then format_layout (job_format job)

-- which lines of the answer to a request may be coloured
abbrev pub request_layout : Request → Option Layout
request_layout (Run job file side) = job_layout job
request_layout (Closings limits formats.Text files) = Some layouts.Table
request_layout (Help text) = Some layouts.Explanation
request_layout request = None

-- which lines are coloured where the answer is printed there
abbrev pub asked_layout : Asked → Terminal → Option Layout
asked_layout asked terminal = if paints asked.color terminal then request_layout asked.request else None
