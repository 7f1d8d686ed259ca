-- What a request has of the values that were found for a command's arguments.
use Rattle.std.specs.Prelude.{◌≡◌, ◌≢◌, ◌↔◌, ℕ, Bool, true, false, Option, None, Some, IsSome, IfSome, Ok, List, map, codes, string_bytes}
use Rattle.hex.specs.Hex.{decode_sized}
use Rattle.clap.specs.Words.{first_value, matched_of, one_text}
use Rattle.clap.specs.declared.parser.matches.Found.{Found}
use Rattle.wsn_wire.specs.declared.endpoint.Role.{Role, TheVariants.{Server}}
use Rattle.wsn_wire.specs.declared.length_encoding.Lengths.TheVariants.{Any}
use Rattle.wsn_rules.specs.Limits.{Limits}
use Rattle.wsn_rules.specs.declared.detail.Detail.TheVariants as details
use Rattle.wsn_print.specs.declared.format.Format.{Format}
use Rattle.wsn_print.specs.declared.format.Format.TheVariants as formats
use Rattle.wsn_print.specs.declared.style.Style.{Style}
use Rattle.wsn_print.specs.WholeViews.{whole_view}
use Rattle.wsn_command.specs.Jobs.{job_role, key_by_size}
use Rattle.wsn_command.specs.declared.comparison.Comparison.{Comparison}
use Rattle.wsn_command.specs.declared.job.How.{How, TheVariants.{ByPlan, BySize}}
use Rattle.wsn_command.specs.declared.job.Job.{Job, TheVariants.{ShowStream, Show, Redact, RedactCapture}}
use Rattle.wsn_cli.specs.Inputs.{AreInputsNamed, IsInputNamed}
use Rattle.wsn_cli.specs.Options.{AreLeftOut, IsAsked, IsAskedMaximum, words_of}
use Rattle.wsn_cli.specs.Requests.{job_at, job_format, job_how, job_limits, job_name, job_style}
use Rattle.wsn_cli.specs.declared.request.Request.{Request, TheVariants.{Run, RecutBy, Same, Closings, Help}}

-- A flag is set exactly if it was given.
pub record IsReadFlag (text : Option (List ℕ)) (flag : Bool) : Type 0 where
  pub without : text ≡ None → flag ≡ false
  pub given : text ≡ Some (codes "true") → flag ≡ true

-- The limits of --limit, --frames and --lengths.
pub record AreReadLimits (found : Found) (limits : Limits) : Type 0 where
  pub message : IsAsked (one_text found (codes "limit")) 16777216 limits.message
  pub frames : IsAskedMaximum (one_text found (codes "frames")) limits.frames
  pub lengths : limits.lengths ≡ Any ↔ (first_value found (codes "lengths") ≡ Some (codes "any"))

-- The endpoint of --role.
abbrev pub IsReadRole : Found → Role → Type 0
IsReadRole found role = role ≡ Server ↔ (first_value found (codes "role") ≡ Some (codes "server"))

-- With --capture, the side of the endpoint that sent the stream; otherwise none.
pub record IsReadSide (found : Found) (role : Role) (side : Option Role) : Type 0 where
  pub stream : one_text found (codes "capture") ≡ None → side ≡ None
  pub capture : one_text found (codes "capture") ≡ Some (codes "true") → side ≡ Some role

-- The side that is read by a job over this endpoint's stream; none by a job over a capture.
abbrev pub IsReadSideOf : Found → Option Role → Option Role → Type 0
IsReadSideOf found None side = side ≡ None
IsReadSideOf found (Some role) side = IsReadSide found role side

-- The format of --json.
pub record IsReadFormat (found : Found) (format : Format) : Type 0 where
  pub text : one_text found (codes "json") ≡ None → format ≡ formats.Text
  pub json : one_text found (codes "json") ≡ Some (codes "true") → format ≡ formats.Json

-- The view of --view for a stream under these limits: 48 bytes without it, and for `all` as many as show each payload
-- whole.
pub record IsReadView (found : Found) (limits : Limits) (view : ℕ) : Type 0 where
  pub whole : first_value found (codes "view") ≡ Some (codes "all") → view ≡ whole_view limits
  pub number : first_value found (codes "view") ≢ Some (codes "all") → IsAsked (one_text found (codes "view")) 48 view

-- The style of --view, --wire and --json for a stream under these limits.
pub record IsReadStyle (found : Found) (limits : Limits) (style : Style) : Type 0 where
  pub view : IsReadView found limits style.view
  pub events : one_text found (codes "wire") ≡ None → style.detail ≡ details.Events
  pub frames : one_text found (codes "wire") ≡ Some (codes "true") → style.detail ≡ details.Frames
  pub format : IsReadFormat found style.format

-- The key whose digits these are; none without digits.
abbrev pub IsReadKey : Option (List ℕ) → Option (List ℕ) → Type 0
IsReadKey None key = key ≡ None
IsReadKey (Some digits) None = ⊥
IsReadKey (Some digits) (Some key) = decode_sized digits 4 ≡ Ok key

-- The recut by size of --size, --weave and --key. One by a plan is a request of its own.
abbrev pub IsReadHow : {A : Type 0} → Found → Role → How A → Type 0
IsReadHow found role (ByPlan plan) = ⊥
IsReadHow found role (BySize size weave key) =
    IsAskedMaximum (one_text found (codes "size")) (Some size)
    × IsReadFlag (one_text found (codes "weave")) weave
    × ((asked : Option (List ℕ)) × IsReadKey (first_value found (codes "key")) asked × (key ≡ key_by_size role asked))

-- `show` and `redact` read the stream of --role's endpoint, and without --role a capture, which has no --capture.
abbrev pub IsReadSource : {A : Type 0} → Found → Job A → Type 0
IsReadSource found (ShowStream role limits style) = IsSome (first_value found (codes "role"))
IsReadSource found (Show limits style) = first_value found (codes "role") ≡ None
IsReadSource found (Redact role limits) = IsSome (first_value found (codes "role"))
IsReadSource found (RedactCapture limits) =
    (first_value found (codes "role") ≡ None) × (one_text found (codes "capture") ≢ Some (codes "true"))
IsReadSource found job = Unit {0}

-- The job is that of the command with this name, and has the values of its options.
pub record IsReadJob {A : Type 0} (name : List ℕ) (found : Found) (job : Job A) : Type 0 where
  pub command : job_name job ≡ name
  pub limits : AreReadLimits found (job_limits job)
  pub role : IfSome (job_role job) (IsReadRole found)
  pub at : IfSome (job_at job) (IsAsked (one_text found (codes "at")) 0)
  pub format : IfSome (job_format job) (IsReadFormat found)
  pub style : IfSome (job_style job) (IsReadStyle found (job_limits job))
  pub source : IsReadSource found job
  pub how : IfSome (job_how job) (λ how. IfSome (job_role job) (λ role. IsReadHow found role how))

-- The comparison has the values of the options of `same`.
pub record IsReadComparison (found : Found) (comparison : Comparison) : Type 0 where
  pub role : IsReadRole found comparison.role
  pub limits : AreReadLimits found comparison.limits
  pub format : IsReadFormat found comparison.format
  pub view : IsAskedMaximum (one_text found (codes "view")) comparison.view
  pub without : AreLeftOut (words_of (matched_of found (codes "without"))) comparison.without

-- The request is that of the command with this name, and has the values that were found for its arguments: the job, the
-- files and the side of a capture that is read. A text is that of `explain`.
abbrev pub IsRead : List ℕ → Found → Request → Type 0
IsRead name found (Run job file side) =
    IsReadJob name found job × IsInputNamed (first_value found (codes "file")) file
    × IsReadSideOf found (job_role job) side
IsRead name found (RecutBy asked) =
    (name ≡ codes "recut") × IsReadRole found asked.role × AreReadLimits found asked.limits
    × IsInputNamed (first_value found (codes "plan")) asked.plan
    × IsInputNamed (first_value found (codes "file")) asked.file × IsReadSide found asked.role asked.side
IsRead name found (Same comparison first second side) =
    (name ≡ codes "same") × IsReadComparison found comparison
    × IsInputNamed (first_value found (codes "first")) first
    × IsInputNamed (first_value found (codes "second")) second × IsReadSide found comparison.role side
IsRead name found (Closings limits format files) =
    (name ≡ codes "closing") × AreReadLimits found limits × IsReadFormat found format
    × AreInputsNamed (words_of (matched_of found (codes "file"))) (map string_bytes files.items)
IsRead name found (Help text) = name ≡ codes "explain"
