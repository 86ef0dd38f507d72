pub mod FitLaws
pub mod OpenLaws
pub mod CellLaws
pub mod NamedLaws
pub mod TopLaws
pub mod FoundInOrder
pub mod LoadedExactly
pub mod WhatIsWritten
