mod Hearing
mod Prefixes
mod Results
