-- The JSON object of a reply.
use Rattle.std.specs.Prelude.{ℕ, List, [], ◌∷◌, Option, Some, None, codes}
use Rattle.serde_json.specs.Data.{Data, null, number, unsigned, string, object}
use Rattle.serde_json.specs.Data.{Members, no_members, member}
use Rattle.serde_json.specs.Written.{compact_text}
use Rattle.sota_report.specs.Names.{Place, first_name}
use Rattle.sota_report.specs.declared.reply.Reply.{Reply}
use Rattle.sota_report.specs.declared.reply.Reply.TheVariants as replies

abbrev pub whole : ℕ → Data
whole n = number (unsigned n)

abbrev pub whole_or_null : Option ℕ → Data
whole_or_null None = null
whole_or_null (Some n) = whole n

abbrev pub text_or_null : Option (List ℕ) → Data
text_or_null None = null
text_or_null (Some text) = string text

abbrev pub members_of : List (List ℕ × Data) → Members
members_of [] = no_members
members_of (first ∷ more) = member first.0 first.1 (members_of more)

-- the number of a cause that has one
abbrev pub count_member : Option ℕ → Members → Members
count_member None more = more
count_member (Some count) more = member (codes "count") (whole count) more

abbrev pub refused_members : ℕ → List ℕ → Option ℕ → Members
refused_members line cause count =
    member (codes "cause") (string cause) (count_member count (members_of (
    (codes "kind", string (codes "refused")) ∷ (codes "line", whole line) ∷ [])))

-- The keys rise. A node has its first name beside it, bounds and confidences are in units of ten to
-- the minus eighteenth, and what a line of text shows as '-' is null.
abbrev pub reply_members : List Place → Reply → Members
reply_members places (replies.Answer origin dest budget lower upper arc) = members_of (
    (codes "arc", whole_or_null arc) ∷ (codes "budget", whole budget)
    ∷ (codes "dest", whole dest) ∷ (codes "from", text_or_null (first_name places origin))
    ∷ (codes "kind", string (codes "answer")) ∷ (codes "lower", whole lower)
    ∷ (codes "origin", whole origin) ∷ (codes "to", text_or_null (first_name places dest))
    ∷ (codes "upper", whole upper) ∷ [])
reply_members places (replies.Edited arc) = members_of (
    (codes "arc", whole arc) ∷ (codes "kind", string (codes "edited")) ∷ [])
reply_members places (replies.Closed arc) = members_of (
    (codes "arc", whole arc) ∷ (codes "kind", string (codes "closed")) ∷ [])
reply_members places (replies.Stored name) = members_of (
    (codes "kind", string (codes "stored")) ∷ (codes "name", string name) ∷ [])
reply_members places (replies.Need origin dest confidence most early sure) = members_of (
    (codes "confidence", whole confidence) ∷ (codes "dest", whole dest)
    ∷ (codes "early", whole_or_null early)
    ∷ (codes "from", text_or_null (first_name places origin))
    ∷ (codes "kind", string (codes "need")) ∷ (codes "most", whole most)
    ∷ (codes "origin", whole origin) ∷ (codes "sure", whole_or_null sure)
    ∷ (codes "to", text_or_null (first_name places dest)) ∷ [])
reply_members places (replies.Route dest budget lower upper arcs) = members_of (
    (codes "arcs", whole arcs) ∷ (codes "budget", whole budget) ∷ (codes "dest", whole dest)
    ∷ (codes "kind", string (codes "route")) ∷ (codes "lower", whole lower)
    ∷ (codes "to", text_or_null (first_name places dest)) ∷ (codes "upper", whole upper) ∷ [])
reply_members places (replies.Refused line cause count) = refused_members line cause count

-- the object with no blank between its parts, spelled as JSON spells its strings and numbers
abbrev pub reply_text : List Place → Reply → List ℕ
reply_text places reply = compact_text (object (reply_members places reply))
