-- What is known of files.
use Rattle.std.proofs.Common.{◌≡◌, Option, Some, None, IfSome, subst}
use Rattle.sota_edge.specs.Desk.{Files}

pub known_map : (o : Option Files) (P Q : Files → Type 0) → ((files : Files) → P files → Q files)
    → IfSome o P → IfSome o Q
known_map (Some files) P Q f h = f files h
known_map None P Q f h = h

-- what is known, at the files
pub at_files : (o : Option Files) (files : Files) (P : Files → Type 0) → o ≡ Some files → IfSome o P
    → P files
at_files o files P e h = subst (λ (x : Option Files). IfSome x P) e h

-- what holds of all files is known
pub of_all : (o : Option Files) (P : Files → Type 0) → ((files : Files) → P files) → IfSome o P
of_all (Some files) P h = h files
of_all None P h = tt
