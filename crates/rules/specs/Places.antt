-- The workspace: the Rust's vectors one after the other in one list, in this order:
--
--     jac          n * n, by rows
--     lu_matrix    n * n, by rows: the matrix to be factored, then its factors
--     33 rows of n, each area named by its first row, in the Rust's words:
--         0 to 7   D                    14  psi            18  delta    22  f1 of hinit
--         8 to 13  scratch_change       15  scale          19  rhs      23  y1 of hinit
--                                       16  y_predict      20  y        24  rtol
--                                       17  y_new          21  f0       25  atol
--         26 to 32 cont, the coefficients: 7 for each component in turn
use Rattle.std.specs.Prelude.{List, ℕ, ◌+◌, ◌*◌, get_or, set, Float}
use Rattle.std.specs.Float.{nan}
use Rattle.loops.specs.Part.{part}

-- D[k] is row k, for k from 0 to 7
abbrev pub d : ℕ → ℕ
d k = k

-- the Rust's scratch_change, six rows in which rescaling makes its new rows. Here they are set to 0 at the beginning and not used:
-- the new rows are made in an array of their own, since two parts of one slice cannot be lent at once
abbrev pub scratch_change : ℕ
scratch_change = 8

abbrev pub psi : ℕ
psi = 14

abbrev pub scale : ℕ
scale = 15

abbrev pub y_predict : ℕ
y_predict = 16

abbrev pub y_new : ℕ
y_new = 17

abbrev pub delta : ℕ
delta = 18

abbrev pub rhs : ℕ
rhs = 19

abbrev pub y : ℕ
y = 20

abbrev pub f0 : ℕ
f0 = 21

abbrev pub f1 : ℕ
f1 = 22

abbrev pub y1 : ℕ
y1 = 23

abbrev pub rtol : ℕ
rtol = 24

abbrev pub atol : ℕ
atol = 25

-- 7 numbers for each component in turn: rows 26 to 32
abbrev pub cont : ℕ
cont = 26

-- how many numbers a run of n components needs
abbrev pub need : ℕ → ℕ
need n = n * n + n * n + 33 * n

-- the place at which row v begins
abbrev pub row : ℕ → ℕ → ℕ
row n v = n * n + n * n + v * n

-- element i of the vector at row v, and the workspace with x in its place
abbrev pub get : ℕ → List Float → ℕ → ℕ → Float
get n ws v i = get_or ws (row n v + i) nan

abbrev pub put : ℕ → List Float → ℕ → ℕ → Float → List Float
put n ws v i x = set ws (row n v + i) x

-- the vector at row v
abbrev pub vector : ℕ → List Float → ℕ → List Float
vector n ws v = part (row n v) n ws

-- jac[(r, c)]
abbrev pub jac : ℕ → List Float → ℕ → ℕ → Float
jac n ws r c = get_or ws (r * n + c) nan

-- lu_matrix[(r, c)]
abbrev pub lu : ℕ → List Float → ℕ → ℕ → Float
lu n ws r c = get_or ws (n * n + r * n + c) nan

abbrev pub put_lu : ℕ → List Float → ℕ → ℕ → Float → List Float
put_lu n ws r c x = set ws (n * n + r * n + c) x
